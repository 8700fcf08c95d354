-- The steps of listing rows.
use Rattle.std.proofs.Common.{◌≡◌, ℕ, ◌+◌, ◌<◌, List, [], ◌∷◌, ◌++◌, map, length, get_or, drop, false, sym, ap, ap₂, ◌∙◌, subst, append_assoc, arith}
use Rattle.std.proofs.lemmas.List.{map-append, length-append, length-map, drop_more}
use Rattle.claim_tree.specs.View.{tree_of}
use Rattle.digest_sites.specs.Given.{Given}
use Rattle.digest_sites.specs.GivenView.{given_of}
use Rattle.digest_sites.specs.declared.given.Given as code_given
use Rattle.rebuild_core.specs.declared.rows.Row.{Row}
use Rattle.rebuild_core.specs.Rows.{SeenRow, seen, tree_rows, value_rows, value_ends}

pub pushed_row : (rows : List Row) (row : Row) → map seen (rows ++ row ∷ []) ≡ map seen rows ++ seen row ∷ []
pushed_row rows row = map-append seen rows (row ∷ [])

-- how many there are after some are added
pub added_rows : (old mid : List Row) (added : List SeenRow) → map seen mid ≡ map seen old ++ added → length mid ≡ length old + length added
added_rows old mid added h =
    let e : length (map seen mid) ≡ length (map seen old) + length added = ap length h ∙ length-append (map seen old) added in
    omega (arith, e, length-map old seen, length-map mid seen)

-- what follows counts those that came before
pub rows_join : (old mid : List Row) (added : List SeenRow) (next : ℕ → List SeenRow) → map seen mid ≡ map seen old ++ added
    → map seen mid ++ next (length mid) ≡ map seen old ++ (added ++ next (length old + length added))
rows_join old mid added next h =
    ap (λ (rows : List SeenRow). rows ++ next (length mid)) h
    ∙ (append_assoc (map seen old) added (next (length mid))
    ∙ ap (λ n. map seen old ++ (added ++ next n)) (added_rows old mid added h))

-- ---- the rows of all values

-- the values that are left complete the list; the last end is the number of rows so far
pub record IsListed (all : List SeenRow) (all_ends : List ℕ) (rows : List Row) (ends : List ℕ) (left : List Given) : Type 0 where
  pub listed : map seen rows ++ value_rows (length rows) left ≡ all
  pub ended : (before : List ℕ) × (ends ≡ before ++ length rows ∷ []) × (before ++ length rows ∷ value_ends (length rows) left ≡ all_ends)

pub listed_more : (all : List SeenRow) (all_ends : List ℕ) (old mid : List Row) (ends more : List ℕ) (items : List code_given.Given) (i : ℕ) (item : code_given.Given)
    → i < length items → item ≡ get_or items i item → IsListed all all_ends old ends (map given_of (drop i items))
    → map seen mid ≡ map seen old ++ tree_rows false (length old) (tree_of item.value) → more ≡ ends ++ length mid ∷ []
    → IsListed all all_ends mid more (map given_of (drop (i + 1) items))
listed_more all all_ends old mid ends more items i item within is so h e =
    let left : map given_of (drop i items) ≡ given_of item ∷ map given_of (drop (i + 1) items) = ap (map given_of) (drop_more items i item within ∙ ap (λ (u : code_given.Given). u ∷ drop (i + 1) items) (sym is)) in
    let us = map given_of (drop (i + 1) items) in
    let m = length old + length (tree_rows false (length old) (tree_of item.value)) in
    let was : IsListed all all_ends old ends (given_of item ∷ us) = subst (λ us. IsListed all all_ends old ends us) left so in
    record {
      listed = rows_join old mid _ (λ n. value_rows n (map given_of (drop (i + 1) items))) h ∙ was.listed;
      ended = (
        ends,
        e,
        ap₂ (λ (done : List ℕ) n. done ++ n ∷ value_ends n us) was.ended.1 (added_rows old mid (tree_rows false (length old) (tree_of item.value)) h)
            ∙ (append_assoc was.ended.0 (length old ∷ []) (m ∷ value_ends m us) ∙ was.ended.2),
      );
    }
