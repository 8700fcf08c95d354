-- Paths that are equal, and a sorted list with each of its paths once.
use Rattle.std.proofs.Common.{◌≡◌, ℕ, zero, suc, ◌+◌, ◌<◌, List, [], ◌∷◌, length, map, Bool, true, false, cond, ◌&&◌, ◌||◌, Ordering, Less, Equal, Greater, refl, sym, ap, ap₂, ◌∙◌, arith}
use Rattle.std.specs.Cmp.{IsEquivalence}
use Rattle.std.specs.Cmp.Lexicographic.{nat_list_eq_equiv}
use Rattle.std.specs.List.{IsDistinct, AllByRecursion, dedup, dedup_from}
use Rattle.std.specs.List.Sorted.{IsPermutation, IsSortedBy, IsStrictlySortedBy}
use Rattle.std.specs.Ordering.{eq_by_cmp, is_eq, ordering_then}
use Rattle.std.specs.Prelude.{slice_index_or}
use Rattle.std.specs.Set.{distinct_count}
use Rattle.std.proofs.lemmas.List.{length-map}
use Rattle.std.proofs.lemmas.List.Kept.{IsStrictlySortedBy-dedup}
use Rattle.std.proofs.lemmas.List.Sorted.{list_any-IsPermutation, IsPermutation-map}
use Rattle.std.proofs.lemmas.Map.Keys.{sorted_head, sorted_tail, IsDistinct-from_sorted, IsDistinct-head, IsDistinct-tail, IsDistinct-cons, IsDistinct-from_apart}
use Rattle.std.proofs.lemmas.Map.Made.{length-from_keys}
use Rattle.claim_tree.proofs.SamePaths.{path_same, path_refl}
use Rattle.marked_tree.specs.Paths.{Path, same_path, is_among}
use Rattle.marked_tree.specs.Rests.{step_cmp, path_order, AfterNone, AreSorted}
use Rattle.marked_tree.proofs.NumberSets.{twice}
use Rattle.marked_tree.proofs.StepOrder.{is_eq-step_cmp}
use Rattle.marked_tree.proofs.PathOrder.{paths_total, lower_path, not_greater}

-- ---- equal paths

-- what is true where two paths are one
pub same_if : (b : Bool) (p q : Path) → (b ≡ true → p ≡ q) × (p ≡ q → b ≡ true) → b ≡ same_path p q
same_if true p q is = sym (path_refl p q (is.0 refl))
same_if false p q is = go (same_path p q) refl
  where
    go : (c : Bool) → same_path p q ≡ c → false ≡ c
    go true e = is.1 (path_same p q e)
    go false e = refl

path_turned : (p q : Path) → same_path p q ≡ same_path q p
path_turned [] [] = refl
path_turned [] (l ∷ q) = refl
path_turned (k ∷ p) [] = refl
path_turned (k ∷ p) (l ∷ q) = ap₂ (λ b c. b && c) ((nat_list_eq_equiv).symm k l) (path_turned p q)

pub path_laws : IsEquivalence same_path
path_laws = record {
  refl = λ p. path_refl p p refl;
  symm = path_turned;
  congr = λ p q other h. ap (λ (r : Path). same_path r other) (path_same p q h);
}

pub path_ties : (p q : Path) → same_path p q ≡ eq_by_cmp path_order p q
path_ties [] [] = refl
path_ties [] (l ∷ q) = refl
path_ties (k ∷ p) [] = refl
path_ties (k ∷ p) (l ∷ q) = ap (λ b. b && same_path p q) (sym (is_eq-step_cmp k l)) ∙ go (step_cmp k l) (path_ties p q)
  where
    go : (o : Ordering) → same_path p q ≡ is_eq (path_order p q) → (is_eq o && same_path p q) ≡ is_eq (ordering_then o (path_order p q))
    go Less tie = refl
    go Equal tie = tie
    go Greater tie = refl

-- ---- each once

among_from : (p k : Path) (xs : List Path) → is_among (dedup_from same_path k xs) p ≡ (same_path p k || is_among xs p)
among_from p k [] = refl
among_from p k (x ∷ xs) = go (same_path x k) refl (among_from p k xs) (among_from p x xs)
  where
    go : (b : Bool) → same_path x k ≡ b
        → is_among (dedup_from same_path k xs) p ≡ (same_path p k || is_among xs p)
        → is_among (dedup_from same_path x xs) p ≡ (same_path p x || is_among xs p)
        → is_among (cond b (dedup_from same_path k xs) (k ∷ dedup_from same_path x xs)) p ≡ (same_path p k || (same_path p x || is_among xs p))
    go true e skip keep =
        skip ∙ twice (same_path p k) (is_among xs p)
        ∙ ap (λ (q : Path). same_path p k || (same_path p q || is_among xs p)) (sym (path_same x k e))
    go false e skip keep = ap (λ b. same_path p k || b) keep

among_dedup : (p : Path) (xs : List Path) → is_among (dedup same_path xs) p ≡ is_among xs p
among_dedup p [] = refl
among_dedup p (x ∷ xs) = among_from p x xs

after_all : (p : Path) (xs : List Path) → AllByRecursion (λ q. path_order p q ≡ Less) xs → AfterNone path_order p xs
after_all p [] all = tt
after_all p (q ∷ xs) all = (not_greater (path_order p q) all.0, after_all p xs all.1)

strictly_sorted : (xs : List Path) → IsStrictlySortedBy path_order xs → AreSorted xs
strictly_sorted [] s = tt
strictly_sorted (x ∷ xs) s = (after_all x xs (sorted_head path_order x xs s), strictly_sorted xs (sorted_tail path_order x xs s))

untied : (p : Path) (xs : List Path) → AllByRecursion (λ q. eq_by_cmp path_order p q ≡ false) xs → AllByRecursion (λ q. same_path p q ≡ false) xs
untied p [] all = tt
untied p (q ∷ xs) all = (path_ties p q ∙ all.0, untied p xs all.1)

all_distinct : (xs : List Path) → IsDistinct (eq_by_cmp path_order) xs → IsDistinct same_path xs
all_distinct [] d = IsDistinct-from_apart same_path [] (λ i j path l h. absurd (omega (arith, h)))
all_distinct (x ∷ xs) d =
    IsDistinct-cons same_path x xs (untied x xs (IsDistinct-head (eq_by_cmp path_order) x xs d)) (all_distinct xs (IsDistinct-tail (eq_by_cmp path_order) x xs d))

-- the same paths in their order, each once
pub record IsEachOnce (paths kept : List Path) : Type 0 where
  pub same : (path : Path) → is_among kept path ≡ is_among paths path
  pub sorted : AreSorted kept
  pub count : length kept ≡ distinct_count same_path paths

pub each_once : (paths sorted kept : List Path) → IsPermutation paths sorted → IsSortedBy lower_path sorted → kept ≡ dedup same_path sorted → IsEachOnce paths kept
each_once paths sorted kept moved up is =
    let strict : IsStrictlySortedBy path_order kept = rw is (IsStrictlySortedBy-dedup paths_total path_ties sorted up) in
    let same : (path : Path) → is_among kept path ≡ is_among paths path
    = λ path. ap (λ ps. is_among ps path) is ∙ among_dedup path sorted ∙ sym (list_any-IsPermutation (same_path path) paths sorted moved) in
    record {
      same = same;
      sorted = strictly_sorted kept strict;
      count = length-from_keys path_laws kept paths (all_distinct kept (IsDistinct-from_sorted path_order kept strict)) same;
    }

-- ---- the same of what shows a path, as one that is lent

module _ {A : Type 0} (f : A → Path) where
  abbrev pub same_shown : A → A → Bool
  same_shown x y = same_path (f x) (f y)

  abbrev pub lower_shown : A → A → Bool
  lower_shown x y = lower_path (f x) (f y)

  index_map : (xs : List A) (i : ℕ) (x : A) (d : Path) → i < length xs → slice_index_or (map f xs) i d ≡ f (slice_index_or xs i x)
  index_map [] i x d l = absurd (omega (arith, l))
  index_map (y ∷ ys) zero x d l = refl
  index_map (y ∷ ys) (suc i) x d l = index_map ys i x d (omega (arith, l))

  sorted_map : (xs : List A) → IsSortedBy lower_shown xs → IsSortedBy lower_path (map f xs)
  sorted_map [] s k d low high = absurd (omega (arith, high))
  sorted_map (x ∷ xs) s k d low high =
      let long = length-map xs f in
      let within : k + 1 < length (x ∷ xs) = omega (arith, long, high) in
      rw (index_map (x ∷ xs) k x d (omega (arith, within)), index_map (x ∷ xs) (k + 1) x d within) (s k x low within)

  map_from : (k : A) (xs : List A) → map f (dedup_from same_shown k xs) ≡ dedup_from same_path (f k) (map f xs)
  map_from k [] = refl
  map_from k (x ∷ xs) = go (same_path (f x) (f k)) (map_from k xs) (map_from x xs)
    where
      go : (b : Bool) → map f (dedup_from same_shown k xs) ≡ dedup_from same_path (f k) (map f xs)
          → map f (dedup_from same_shown x xs) ≡ dedup_from same_path (f x) (map f xs)
          → map f (cond b (dedup_from same_shown k xs) (k ∷ dedup_from same_shown x xs)) ≡ cond b (dedup_from same_path (f k) (map f xs)) (f k ∷ dedup_from same_path (f x) (map f xs))
      go true skip keep = skip
      go false skip keep = ap (λ ps. f k ∷ ps) keep

  map_dedup : (xs : List A) → map f (dedup same_shown xs) ≡ dedup same_path (map f xs)
  map_dedup [] = refl
  map_dedup (x ∷ xs) = map_from x xs

  pub each_shown : (xs sorted kept : List A) → IsPermutation xs sorted → IsSortedBy lower_shown sorted → kept ≡ dedup same_shown sorted → IsEachOnce (map f xs) (map f kept)
  each_shown xs sorted kept moved up is =
      each_once (map f xs) (map f sorted) (map f kept) (IsPermutation-map f xs sorted moved) (sorted_map sorted up) (ap (map f) is ∙ map_dedup sorted)
