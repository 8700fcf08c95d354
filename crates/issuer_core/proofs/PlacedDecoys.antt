-- Decoys' digests at their places: one step down, at the place itself, and sorted.
use Rattle.std.proofs.Common.{◌≡◌, ◌≢◌, ℕ, zero, suc, ◌+◌, ◌-◌, ◌<◌, ◌≤◌, List, [], ◌∷◌, ◌++◌, length, take, drop, get_or, Some, Bool, false, cond, Less, Equal, Greater, refl, sym, ap, subst, ◌∙◌, arith}
use Rattle.std.proofs.lemmas.List.{length-take-le, length-drop}
use Rattle.std.proofs.lemmas.Option.{get_or_from_slice_get}
use Rattle.std.proofs.Math.Seq.{take-length}
use Rattle.std.specs.Prelude.{nat_le, slice_get}
use Rattle.std.proofs.lemmas.Bool.{leb-true, le-leb}
use Rattle.std.specs.List.Sorted.{IsPartitionedBy}
use Rattle.claim_tree.specs.Tree.{Text}
use Rattle.sd_outside.proofs.Lists.{bytes_refl}
use Rattle.marked_tree.specs.Paths.{Path, same_path}
use Rattle.marked_tree.specs.Rests.{rests, step_order, path_order, AreSorted, Every, Compares, IsRunOfPaths}
use Rattle.marked_tree.proofs.StepOrder.{same_step, step_before, steps_apart, steps_apart_back}
use Rattle.marked_tree.proofs.PathOrder.{at_end, goes_on, sorted_pair, rest_whole}
use Rattle.issuer_core.specs.Laying.{digests_on_path}

-- ---- one step down

module _ (depth : ℕ) (step : Text) (q : Path) where
  front_differs : (x : Path) → step_order x step ≡ Less → same_path x (step ∷ q) ≡ false
  front_differs [] e = refl
  front_differs (k ∷ t) e = rw (steps_apart k step e) refl

  back_differs : (x : Path) → step_order x step ≡ Greater → same_path x (step ∷ q) ≡ false
  back_differs [] e = cc
  back_differs (k ∷ t) e = rw (steps_apart_back step k (step_before k step e)) refl

  skip_front : (n : ℕ) (xs : List Path) (ds : List Text) → Every (Compares Less depth step) (take n xs)
      → digests_on_path (rests depth xs) ds (step ∷ q) ≡ digests_on_path (rests depth (drop n xs)) (drop n ds) (step ∷ q)
  skip_front zero xs ds all = refl
  skip_front (suc n) [] ds all = refl
  skip_front (suc n) (x ∷ xs) [] all = go (drop n xs)
    where
      go : (ys : List Path) → [] ≡ digests_on_path (rests depth ys) [] (step ∷ q)
      go [] = refl
      go (y ∷ ys) = refl
  skip_front (suc n) (x ∷ xs) (d ∷ ds) all = rw (front_differs (drop depth x) all.0) (skip_front n xs ds all.1)

  skip_all : (xs : List Path) (ds : List Text) → Every (Compares Greater depth step) xs → digests_on_path (rests depth xs) ds (step ∷ q) ≡ []
  skip_all [] ds all = refl
  skip_all (x ∷ xs) [] all = refl
  skip_all (x ∷ xs) (d ∷ ds) all = rw (back_differs (drop depth x) all.0) (skip_all xs ds all.1)

  skip_back : (n : ℕ) (xs : List Path) (ds : List Text) → Every (Compares Greater depth step) (drop n xs)
      → digests_on_path (rests depth xs) ds (step ∷ q) ≡ digests_on_path (rests depth (take n xs)) (take n ds) (step ∷ q)
  skip_back zero xs ds all = skip_all xs ds all
  skip_back (suc n) [] ds all = refl
  skip_back (suc n) (x ∷ xs) [] all = refl
  skip_back (suc n) (x ∷ xs) (d ∷ ds) all = ap (λ (rest : List Text). cond (same_path (drop depth x) (step ∷ q)) (d ∷ []) [] ++ rest) (skip_back n xs ds all)

goes_further : (depth : ℕ) (x : Path) (step : Text) (q : Path) → step_order (drop depth x) step ≡ Equal → same_path (drop depth x) (step ∷ q) ≡ same_path (drop (depth + 1) x) q
goes_further zero [] step q e = cc
goes_further zero (k ∷ t) step q e = rw (bytes_refl k step (same_step k step e)) refl
goes_further (suc depth) [] step q e = cc
goes_further (suc depth) (k ∷ t) step q e = let more : suc depth + 1 ≡ suc (depth + 1) = omega arith in rw more (goes_further depth t step q e)

go_on : (depth : ℕ) (step : Text) (q : Path) (xs : List Path) (ds : List Text) → Every (Compares Equal depth step) xs → digests_on_path (rests depth xs) ds (step ∷ q) ≡ digests_on_path (rests (depth + 1) xs) ds q
go_on depth step q [] ds all = refl
go_on depth step q (x ∷ xs) [] all = refl
go_on depth step q (x ∷ xs) (d ∷ ds) all = rw (goes_further depth x step q all.0) (ap (λ (rest : List Text). cond (same_path (drop (depth + 1) x) q) (d ∷ []) [] ++ rest) (go_on depth step q xs ds all.1))

pub placed_below : (depth : ℕ) (step : Text) (xs : List Path) (ds : List Text) (start count : ℕ) → IsRunOfPaths depth step xs start count
    → (q : Path) → digests_on_path (rests (depth + 1) (take count (drop start xs))) (take count (drop start ds)) q ≡ digests_on_path (rests depth xs) ds (step ∷ q)
placed_below depth step xs ds start count run q =
    sym (skip_front depth step q start xs ds run.before ∙ skip_back depth step q count (drop start xs) (drop start ds) run.behind ∙ go_on depth step q (take count (drop start xs)) (take count (drop start ds)) run.run)

-- ---- at the place itself

ends_short : (depth : ℕ) (x : Path) → drop depth x ≡ [] → length x ≤ depth
ends_short zero [] e = omega arith
ends_short zero (k ∷ x) e = cc
ends_short (suc depth) [] e = omega arith
ends_short (suc depth) (k ∷ x) e = let rest = ends_short depth x e in omega (arith, rest)

front_ends : (q : Path) → path_order q [] ≢ Greater → q ≡ []
front_ends [] n = refl
front_ends (k ∷ q) n = absurd (n refl)

-- of sorted paths those that end come first
pub ends_before : (depth : ℕ) (xs : List Path) (i j : ℕ) (d : Path) → AreSorted (rests depth xs) → i ≤ j → j < length xs → length (get_or xs j d) ≤ depth → length (get_or xs i d) ≤ depth
ends_before depth xs i j d s l h short =
    let last = at_end depth (get_or xs j d) short in
    ends_short depth (get_or xs i d) (front_ends (drop depth (get_or xs i d)) (subst (λ q. path_order (drop depth (get_or xs i d)) q ≢ Greater) last (sorted_pair depth xs i j d s l h)))

-- the test by which those that end are searched
abbrev pub is_short : ℕ → Path → Bool
is_short depth p = nat_le (length p) depth

pub parted_short : (depth : ℕ) (xs : List Path) → AreSorted (rests depth xs) → IsPartitionedBy (is_short depth) xs
parted_short depth xs s i j d l h t = le-leb (length (get_or xs i d)) depth (ends_before depth xs i j d s l h (leb-true (length (get_or xs j d)) depth t))

none_here : (depth : ℕ) (xs : List Path) (ds : List Text) → ((k : ℕ) (d : Path) → k < length xs → depth < length (get_or xs k d)) → digests_on_path (rests depth xs) ds [] ≡ []
none_here depth [] ds all = refl
none_here depth (x ∷ xs) [] all = refl
none_here depth (x ∷ xs) (d ∷ ds) all =
    let w = goes_on depth x (all 0 x (omega arith)) in
    rw w.2 (none_here depth xs ds (λ k e l. all (suc k) e (omega (arith, l))))

pub placed_here : (depth : ℕ) (xs : List Path) (ds : List Text) (count : ℕ) → ((k : ℕ) (d : Path) → k < count → k < length xs → length (get_or xs k d) ≤ depth)
    → ((k : ℕ) (d : Path) → count ≤ k → k < length xs → depth < length (get_or xs k d)) → length ds ≡ length xs → take count ds ≡ digests_on_path (rests depth xs) ds []
placed_here depth xs ds zero short long same = sym (none_here depth xs ds (λ k d l. long k d (omega arith) l))
placed_here depth [] [] (suc count) short long same = refl
placed_here depth [] (d ∷ ds) (suc count) short long same = absurd (omega (arith, same))
placed_here depth (x ∷ xs) [] (suc count) short long same = absurd (omega (arith, same))
placed_here depth (x ∷ xs) (d ∷ ds) (suc count) short long same =
    rw (at_end depth x (short 0 x (omega arith) (omega arith)))
    (ap (λ (rest : List Text). d ∷ rest)
    (placed_here depth xs ds count (λ k e l h. short (suc k) e (omega (arith, l)) (omega (arith, h))) (λ k e l h. long (suc k) e (omega (arith, l)) (omega (arith, h))) (omega (arith, same))))

-- ---- at no place further on

none_further : (depth : ℕ) (xs : List Path) (ds : List Text) → ((k : ℕ) (d : Path) → k < length xs → length (get_or xs k d) ≤ depth) → (step : Text) (q : Path) → digests_on_path (rests depth xs) ds (step ∷ q) ≡ []
none_further depth [] ds all step q = refl
none_further depth (x ∷ xs) [] all step q = refl
none_further depth (x ∷ xs) (d ∷ ds) all step q = rw (at_end depth x (all 0 x (omega arith))) (none_further depth xs ds (λ k e l. all (suc k) e (omega (arith, l))) step q)

-- where the last ends at the place, all do
pub all_end : (depth : ℕ) (xs : List Path) (ds : List Text) (last : Path) → AreSorted (rests depth xs) → slice_get xs (length xs - 1) ≡ Some last → length last ≤ depth
    → (step : Text) (q : Path) → digests_on_path (rests depth xs) ds (step ∷ q) ≡ []
all_end depth xs ds last sorted is short =
    none_further depth xs ds
    (λ k d l. ends_before depth xs k (length xs - 1) d sorted (omega (arith, l)) (omega (arith, l)) (subst (λ (p : Path). length p ≤ depth) (sym (get_or_from_slice_get xs (length xs - 1) last d is)) short))

-- ---- slices

pub whole_rest : (ds : List Text) (start : ℕ) → take (length ds - start) (drop start ds) ≡ drop start ds
whole_rest ds start = rw (sym (length-drop start ds)) (take-length (drop start ds))

pub run_length : (xs : List Path) (ds : List Text) (start count : ℕ) → length ds ≡ length xs → start + count ≤ length xs
    → length (take count (take (length ds - start) (drop start ds))) ≡ length (take count (take (length xs - start) (drop start xs)))
run_length xs ds start count same within =
    let short : count ≤ length (drop start ds) = omega (arith, length-drop start ds, same, within) in
    let other : count ≤ length (drop start xs) = omega (arith, length-drop start xs, within) in
    ap (λ (es : List Text). length (take count es)) (whole_rest ds start) ∙ (length-take-le count (drop start ds) short ∙ sym (ap (λ (ys : List Path). length (take count ys)) (rest_whole xs start) ∙ length-take-le count (drop start xs) other))
