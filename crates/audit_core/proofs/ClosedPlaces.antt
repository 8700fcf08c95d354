-- The values at marked nodes are those at the hidden places in closing order.
use Rattle.std.proofs.Common.{◌≡◌, ℕ, suc, ◌+◌, arith, List, [], ◌∷◌, ◌++◌, map, length, Bool, true, false, refl, sym, ap, ap₂, ◌∙◌, decimal, append_assoc}
use Rattle.std.specs.Prelude.{slice_get}
use Rattle.std.proofs.lemmas.List.{map-append, append-nil, length-append, length-map}
use Rattle.claim_tree.specs.Tree.{Text, Tree, leaf, array, object, Elements, no_elements, element, Members, no_members, member}
use Rattle.digest_sites.specs.Given.{Given}
use Rattle.digest_sites.specs.declared.site.Site.{Site}
use Rattle.marked_tree.specs.Paths.{Path, below, one_if, hidden_in, mark_if, mark_from, mark_elements, mark_members, is_among, mark}
use Rattle.marked_tree.specs.Ways.{own_path, closing, closing_elements, closing_members}
use Rattle.marked_tree.proofs.Closing.{own_length, count}
use Rattle.audit_core.specs.Places.{given_at, value_at, values_at, elements_values, members_values}

-- those at the paths, where the value at the first has the number n
abbrev pub values_on : (Text → Bool) → List Given → ℕ → List Path → List Site
values_on known g n [] = []
values_on known g n (p ∷ ps) = given_at known p (slice_get g n) ++ values_on known g (suc n) ps

values-append : (known : Text → Bool) (g : List Given) (n : ℕ) (ps qs : List Path) → values_on known g n (ps ++ qs) ≡ values_on known g n ps ++ values_on known g (n + length ps) qs
values-append known g n [] qs = ap (λ (k : ℕ). values_on known g k qs) (omega arith)
values-append known g n (p ∷ ps) qs =
    ap (λ (ss : List Site). given_at known p (slice_get g n) ++ ss)
    (values-append known g (suc n) ps qs ∙ ap (λ (k : ℕ). values_on known g (suc n) ps ++ values_on known g k qs) (omega arith))
    ∙ sym (append_assoc (given_at known p (slice_get g n)) (values_on known g (suc n) ps) (values_on known g (n + suc (length ps)) qs))

-- ---- on a walk

abbrev below_at : Path → List Path → List Path
below_at at ps = map (λ (p : Path). at ++ p) ps

abbrev from_step : Text → List Path → List Path
from_step step ps = map (λ (p : Path). step ∷ p) ps

stepped : (at : Path) (step : Text) (ps : List Path) → below_at (at ++ step ∷ []) ps ≡ below_at at (from_step step ps)
stepped at step [] = refl
stepped at step (p ∷ ps) = ap₂ (λ (x : Path) (xs : List Path). x ∷ xs) (append_assoc at (step ∷ []) p) (stepped at step ps)

from_root : (ps : List Path) → below_at [] ps ≡ ps
from_root [] = refl
from_root (p ∷ ps) = ap (λ (qs : List Path). p ∷ qs) (from_root ps)

-- of the places inside a node, its own, and those behind it
parted : (known : Text → Bool) (g : List Given) (n : ℕ) (at : Path) (inner own rest : List Path)
    → values_on known g n (below_at at ((inner ++ own) ++ rest))
    ≡ (values_on known g n (below_at at inner) ++ values_on known g (n + length inner) (below_at at own)) ++ values_on known g (n + (length inner + length own)) (below_at at rest)
parted known g n at inner own rest =
    ap (values_on known g n) (map-append (λ (p : Path). at ++ p) (inner ++ own) rest ∙ ap (λ (ps : List Path). ps ++ below_at at rest) (map-append (λ (p : Path). at ++ p) inner own))
    ∙ values-append known g n (below_at at inner ++ below_at at own) (below_at at rest)
    ∙ ap₂ (λ (ss : List Site) (k : ℕ). ss ++ values_on known g k (below_at at rest))
    (values-append known g n (below_at at inner) (below_at at own) ∙ ap (λ (k : ℕ). values_on known g n (below_at at inner) ++ values_on known g (n + k) (below_at at own)) (length-map inner (λ (p : Path). at ++ p)))
    (omega (
      arith,
      length-append (below_at at inner) (below_at at own),
      length-map inner (λ (p : Path). at ++ p),
      length-map own (λ (p : Path). at ++ p),
    ))

own_value : (known : Text → Bool) (g : List Given) (at : Path) (b : Bool) (k : Text) (n : ℕ) → value_at known g (at ++ k ∷ []) (mark_if b n) ≡ values_on known g n (below_at at (own_path b k))
own_value known g at true k n = sym (append-nil (given_at known (at ++ k ∷ []) (slice_get g n)))
own_value known g at false k n = refl

step : (known : Text → Bool) (g : List Given) (at : Path) (b : Bool) (k : Text) (n a : ℕ) (inner rest : List Path) (xs ys : List Site) → length inner ≡ a
    → xs ≡ values_on known g n (below_at (at ++ k ∷ []) inner) → ys ≡ values_on known g (n + (a + one_if b)) (below_at at rest)
    → (xs ++ value_at known g (at ++ k ∷ []) (mark_if b (n + a))) ++ ys ≡ values_on known g n (below_at at ((from_step k inner ++ own_path b k) ++ rest))
step known g at b k n a inner rest xs ys long e f =
    let many : length (from_step k inner) ≡ a = length-map inner (λ (p : Path). k ∷ p) ∙ long in
    ap₂ (λ (us vs : List Site). us ++ vs)
    (ap₂ (λ (us vs : List Site). us ++ vs) (e ∙ ap (values_on known g n) (stepped at k inner)) (own_value known g at b k (n + a) ∙ ap (λ (j : ℕ). values_on known g (n + j) (below_at at (own_path b k))) (sym many)))
    (f ∙ ap (λ (j : ℕ). values_on known g (n + j) (below_at at rest)) (omega (arith, many, own_length b k)))
    ∙ sym (parted known g n at (from_step k inner) (own_path b k) rest)

mutual
  marked : (known : Text → Bool) (g : List Given) (h : Path → Bool) (n : ℕ) (at : Path) (t : Tree) → values_at known g at (mark_from h n t) ≡ values_on known g n (below_at at (closing h t))
  marked known g h n at (leaf l) = refl
  marked known g h n at (array es) = marked_elements known g h n 0 at es
  marked known g h n at (object ms) = marked_members known g h n at ms

  marked_elements : (known : Text → Bool) (g : List Given) (h : Path → Bool) (n i : ℕ) (at : Path) (es : Elements)
      → elements_values known g at i (mark_elements h n i es) ≡ values_on known g n (below_at at (closing_elements h i es))
  marked_elements known g h n i at no_elements = refl
  marked_elements known g h n i at (element t es) =
      let a = hidden_in (below (decimal i) h) t in
      let b = h (decimal i ∷ []) in
      step known g at b (decimal i) n a (closing (below (decimal i) h) t) (closing_elements h (suc i) es) _ _ (count (below (decimal i) h) t) (marked known g (below (decimal i) h) n (at ++ decimal i ∷ []) t)
      (marked_elements known g h (n + (a + one_if b)) (suc i) at es)

  marked_members : (known : Text → Bool) (g : List Given) (h : Path → Bool) (n : ℕ) (at : Path) (ms : Members) → members_values known g at (mark_members h n ms) ≡ values_on known g n (below_at at (closing_members h ms))
  marked_members known g h n at no_members = refl
  marked_members known g h n at (member k t ms) =
      let a = hidden_in (below k h) t in
      let b = h (k ∷ []) in
      step known g at b k n a (closing (below k h) t) (closing_members h ms) _ _ (count (below k h) t) (marked known g (below k h) n (at ++ k ∷ []) t) (marked_members known g h (n + (a + one_if b)) at ms)

pub closed : (known : Text → Bool) (g : List Given) (t : Tree) (hide : List Path) → values_at known g [] (mark t hide) ≡ values_on known g 0 (closing (is_among hide) t)
closed known g t hide = marked known g (is_among hide) 0 [] t ∙ ap (values_on known g 0) (from_root (closing (is_among hide) t))
