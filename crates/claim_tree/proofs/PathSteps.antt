-- The steps of a path, in the text in which they stand.
use Rattle.std.proofs.Common.{◌≡◌, true, false, ℕ, zero, suc, ◌+◌, ◌-◌, ◌<◌, ◌≤◌, List, [], ◌∷◌, ◌++◌, length, take, drop, get_or, Some, inl, inr, refl, sym, ap, ap₂, subst, ◌∙◌, arith, rules, length-append, append_assoc, drop-drop, IsUtf8}
use Rattle.std.specs.Prelude.{slice_range, slice_get}
use Rattle.std.specs.Prelude.{nat_eq}
use Rattle.std.specs.List.{flat_map, starts_with}
use Rattle.claim_tree.specs.Path.{is_front}
use Rattle.sd_outside.proofs.Lists.{bytes_same, bytes_refl}
use Rattle.claim_tree.proofs.SamePaths.{path_same, path_refl}
use Rattle.std.specs.Str.{IsCharBoundary}
use Rattle.std.specs.Cmp.{both_ways}
use Rattle.std.proofs.Math.Nat.{eq-or-lt_of_le}
use Rattle.std.proofs.Math.Seq.{drop-append-add, drop-length, get_or-append_seam}
use Rattle.std.proofs.lemmas.List.{take-append-le, drop-append-le, take-take, take-append-drop, drop-take, drop_more, length-take, length-take-le, length-drop, take_all, get_or-take, get_or_append_left}
use Rattle.std.proofs.lemmas.Str.{IsCharBoundary-at_seam, IsUtf8-append, IsUtf8-from_ascii}
use Rattle.claim_tree.specs.Steps.{steps_between, AreEnds}

-- ---- what is known of the ends

pub starts_within : (start : ℕ) (ends text : List ℕ) → AreEnds start ends text → start ≤ length text
starts_within start [] text are = omega (arith, are)
starts_within start (end ∷ ends) text are = let next = are.1 in omega (arith, next.0)

pub start_boundary : (start : ℕ) (ends text : List ℕ) → AreEnds start ends text → IsCharBoundary text start
start_boundary start [] text are = (omega (arith, are), λ within. absurd (omega (arith, are)))
start_boundary start (end ∷ ends) text are = let next = are.1 in (omega (arith, next.0), λ _ large. absurd (omega (arith, large, are.0)))

pub steps_length : (start : ℕ) (ends text : List ℕ) → length (steps_between start ends text) ≡ length ends
steps_length start [] text = refl
steps_length start (end ∷ ends) text = ap suc (steps_length end ends text)

-- ---- the step at a position

-- where the slash of the step at a position stands
abbrev pub start_of : ℕ → List ℕ → ℕ → ℕ
start_of start ends i = get_or (start ∷ ends) i 0

-- the ends from a position on
pub ends_from : (start : ℕ) (ends text : List ℕ) (i : ℕ) → i ≤ length ends → AreEnds start ends text → AreEnds (start_of start ends i) (drop i ends) text
ends_from start ends text zero within are = are
ends_from start [] text (suc i) within are = absurd (omega arith)
ends_from start (end ∷ ends) text (suc i) within are = ends_from end ends text i (omega arith) are.3

-- a step begins behind its slash, and ends no earlier
pub step_bounds : (start : ℕ) (ends text : List ℕ) (i : ℕ) → i < length ends → AreEnds start ends text → IsCharBoundary text (start_of start ends i + 1) × (start_of start ends i + 1 ≤ get_or ends i 0)
step_bounds start [] text i within are = absurd (omega arith)
step_bounds start (end ∷ ends) text zero within are = (are.1, are.2)
step_bounds start (end ∷ ends) text (suc i) within are = step_bounds end ends text i (omega arith) are.3

pub step_at : (start : ℕ) (ends text : List ℕ) (i : ℕ) → i < length ends → slice_get (steps_between start ends text) i ≡ Some (slice_range text (start_of start ends i + 1) (get_or ends i 0))
step_at start [] text i within = absurd (omega arith)
step_at start (end ∷ ends) text zero within = refl
step_at start (end ∷ ends) text (suc i) within = step_at end ends text i (omega arith)

pub starts_at_boundary : (ends text : List ℕ) (i : ℕ) → i ≤ length ends → AreEnds 0 ends text → IsCharBoundary text (start_of 0 ends i)
starts_at_boundary ends text i within are = start_boundary (start_of 0 ends i) (drop i ends) text (ends_from 0 ends text i within are)

pub ends_at_boundary : (ends text : List ℕ) (i : ℕ) → i < length ends → AreEnds 0 ends text → IsCharBoundary text (get_or ends i 0)
ends_at_boundary ends text i within are = starts_at_boundary ends text (suc i) within are

-- ---- one step more

-- a step behind its slash
abbrev pub slashed : List ℕ → List ℕ
slashed step = 47 ∷ step

slash_utf8 : IsUtf8 (47 ∷ [])
slash_utf8 = IsUtf8-from_ascii (47 ∷ []) (search rules)

slashed_utf8 : (step : List ℕ) → IsUtf8 step → IsUtf8 (slashed step)
slashed_utf8 step utf8 = IsUtf8-append (47 ∷ []) step slash_utf8 utf8

later_boundary : (text more : List ℕ) (i : ℕ) → IsUtf8 more → IsCharBoundary text i → IsCharBoundary (text ++ more) i
later_boundary text more i utf8 at = elim (eq-or-lt_of_le at.0) [
  | inl ends ↦ rw ends (IsCharBoundary-at_seam (text ++ more) text more refl utf8)
  | inr inside ↦ (omega (arith, at.0, length-append text more), λ _. rw (get_or_append_left text more 0 i inside) (at.1 inside))
]

behind_slash : (text step : List ℕ) → IsUtf8 step → IsCharBoundary (text ++ slashed step) (length text + 1)
behind_slash text step utf8 =
    subst (IsCharBoundary (text ++ slashed step)) (length-append text (47 ∷ [])) (IsCharBoundary-at_seam (text ++ slashed step) (text ++ 47 ∷ []) step (sym (append_assoc text (47 ∷ []) step)) utf8)

pub more_ends : (start : ℕ) (ends text step : List ℕ) → IsUtf8 step → AreEnds start ends text → AreEnds start (ends ++ length (text ++ slashed step) ∷ []) (text ++ slashed step)
more_ends start [] text step utf8 are =
    rw are (get_or-append_seam text 47 step 0, behind_slash text step utf8, omega (arith, length-append text (slashed step)), refl)
more_ends start (end ∷ ends) text step utf8 are =
    let next = are.1 in (
      get_or_append_left text (slashed step) 0 start (omega (arith, next.0)) ∙ are.0,
      later_boundary text (slashed step) (start + 1) (slashed_utf8 step utf8) next,
      are.2,
      more_ends end ends text step utf8 are.3,
    )

same_piece : (text more : List ℕ) (start end : ℕ) → start ≤ end → end ≤ length text → slice_range (text ++ more) start end ≡ slice_range text start end
same_piece text more start end rises within =
    ap (take (end - start)) (drop-append-le start text more (omega arith))
    ∙ take-append-le (end - start) (drop start text) more (omega (arith, length-drop start text))

pub piece_and_rest : (text : List ℕ) (start end : ℕ) → start ≤ end → drop start text ≡ slice_range text start end ++ drop end text
piece_and_rest text start end rises =
    let on : start + (end - start) ≡ end = omega arith in
    sym (take-append-drop (end - start) (drop start text)) ∙ ap (λ (rest : List ℕ). slice_range text start end ++ rest) (drop-drop (end - start) start text ∙ ap (λ n. drop n text) on)

pub piece_length : (text : List ℕ) (start end : ℕ) → start ≤ end → end ≤ length text → length (slice_range text start end) ≡ end - start
piece_length text start end rises within = length-take-le (end - start) (drop start text) (omega (arith, length-drop start text))

last_piece : (text step : List ℕ) → slice_range (text ++ slashed step) (length text + 1) (length (text ++ slashed step)) ≡ step
last_piece text step =
    let rest : drop (length text + 1) (text ++ slashed step) ≡ step = drop-append-add text (slashed step) 1 in
    let count : length (text ++ slashed step) - (length text + 1) ≡ length step = omega (arith, length-append text (slashed step)) in
    rw (rest, count) (take_all (length step) step (omega arith))

pub more_steps : (start : ℕ) (ends text step : List ℕ) → AreEnds start ends text
    → steps_between start (ends ++ length (text ++ slashed step) ∷ []) (text ++ slashed step) ≡ steps_between start ends text ++ step ∷ []
more_steps start [] text step are = rw are (ap (λ (s : List ℕ). s ∷ []) (last_piece text step))
more_steps start (end ∷ ends) text step are =
    rw (same_piece text (slashed step) (start + 1) end are.2 (starts_within end ends text are.3), more_steps end ends text step are.3) refl

-- ---- the first steps alone

start_before : (start : ℕ) (ends text : List ℕ) (k : ℕ) → k ≤ length ends → AreEnds start ends text → start ≤ start_of start ends k
start_before start ends text zero within are = omega arith
start_before start [] text (suc k) within are = absurd (omega arith)
start_before start (end ∷ ends) text (suc k) within are = let later = start_before end ends text k (omega arith) are.3 in omega (arith, later, are.2)

earlier_boundary : (text : List ℕ) (n i : ℕ) → i ≤ n → n ≤ length text → IsCharBoundary text i → IsCharBoundary (take n text) i
earlier_boundary text n i before within at =
    let count : length (take n text) ≡ n = length-take-le n text within in
    (omega (arith, count), λ inside. rw (get_or-take n text i 0 (omega (arith, count))) (at.1 (omega (arith, count))))

pub fewer_ends : (start : ℕ) (ends text : List ℕ) (k : ℕ) → k ≤ length ends → AreEnds start ends text → AreEnds start (take k ends) (take (start_of start ends k) text)
fewer_ends start ends text zero within are = sym (length-take-le start text (starts_within start ends text are))
fewer_ends start [] text (suc k) within are = absurd (omega arith)
fewer_ends start (end ∷ ends) text (suc k) within are =
    let later = start_before end ends text k (omega arith) are.3 in
    let inside = starts_within (start_of end ends k) (drop k ends) text (ends_from end ends text k (omega arith) are.3) in (
      get_or-take (start_of end ends k) text start 0 (omega (arith, later, are.2)) ∙ are.0,
      earlier_boundary text (start_of end ends k) (start + 1) (omega (arith, later, are.2)) inside are.1,
      are.2,
      fewer_ends end ends text k (omega arith) are.3,
    )

same_front : (text : List ℕ) (n start end : ℕ) → start ≤ end → end ≤ n → slice_range (take n text) start end ≡ slice_range text start end
same_front text n start end rises before =
    let split : start + (n - start) ≡ n = omega arith in
    ap (λ (m : ℕ). take (end - start) (drop start (take m text))) (sym split)
    ∙ ap (take (end - start)) (drop-take start (n - start) text)
    ∙ take-take (end - start) (n - start) (drop start text) (omega arith)

pub fewer_steps : (start : ℕ) (ends text : List ℕ) (k : ℕ) → k ≤ length ends → AreEnds start ends text
    → steps_between start (take k ends) (take (start_of start ends k) text) ≡ take k (steps_between start ends text)
fewer_steps start ends text zero within are = refl
fewer_steps start [] text (suc k) within are = absurd (omega arith)
fewer_steps start (end ∷ ends) text (suc k) within are =
    rw (same_front text (start_of end ends k) (start + 1) end are.2 (start_before end ends text k (omega arith) are.3), fewer_steps end ends text k (omega arith) are.3) refl

pub last_of : (start : ℕ) (ends : List ℕ) (k : ℕ) → k ≤ length ends → start_of start (take k ends) (length (take k ends)) ≡ start_of start ends k
last_of start ends zero within = refl
last_of start [] (suc k) within = absurd (omega arith)
last_of start (end ∷ ends) (suc k) within = last_of end ends k (omega arith)

-- ---- the same steps

-- a path's text is its steps, each behind a slash
pub text_of_steps : (start : ℕ) (ends text : List ℕ) → AreEnds start ends text → drop start text ≡ flat_map slashed (steps_between start ends text)
text_of_steps start [] text are = rw are (drop-length text)
text_of_steps start (end ∷ ends) text are =
    let within = starts_within end ends text are.3 in
    let first : drop start text ≡ 47 ∷ drop (start + 1) text = drop_more text start 0 (omega (arith, are.2, within)) ∙ ap (λ (b : ℕ). b ∷ drop (start + 1) text) are.0 in
    let split : drop (start + 1) text ≡ slice_range text (start + 1) end ++ drop end text = piece_and_rest text (start + 1) end are.2 in
    first ∙ ap (λ (rest : List ℕ). 47 ∷ rest) (split ∙ ap (λ (rest : List ℕ). slice_range text (start + 1) end ++ rest) (text_of_steps end ends text are.3))

pub ends_of_steps : (start : ℕ) (ends others text more : List ℕ) → AreEnds start ends text → AreEnds start others more → steps_between start ends text ≡ steps_between start others more → ends ≡ others
ends_of_steps start [] [] text more are ere same = refl
ends_of_steps start [] (other ∷ others) text more are ere same = cc same
ends_of_steps start (end ∷ ends) [] text more are ere same = cc same
ends_of_steps start (end ∷ ends) (other ∷ others) text more are ere same =
    let first : slice_range text (start + 1) end ≡ slice_range more (start + 1) other = cc same in
    let rest : steps_between end ends text ≡ steps_between other others more = cc same in
    let long = piece_length text (start + 1) end are.2 (starts_within end ends text are.3) in
    let wide = piece_length more (start + 1) other ere.2 (starts_within other others more ere.3) in
    let count : length (slice_range text (start + 1) end) ≡ length (slice_range more (start + 1) other) = ap length first in
    let end_is : end ≡ other = omega (arith, long, wide, count, are.2, ere.2) in
    rw end_is (ap (λ (es : List ℕ). other ∷ es) (ends_of_steps other ends others text more (rw end_is at are.3) ere.3 (rw end_is at rest)))

pub one_text : (ends others text more : List ℕ) → AreEnds 0 ends text → AreEnds 0 others more → steps_between 0 ends text ≡ steps_between 0 others more → text ≡ more
one_text ends others text more are ere same = text_of_steps 0 ends text are ∙ ap (flat_map slashed) same ∙ sym (text_of_steps 0 others more ere)

-- ---- one path as the front of another

-- the last step ends where the text does
last_end : (ends text : List ℕ) → AreEnds 0 ends text → start_of 0 ends (length ends) ≡ length text
last_end ends text are = rw (drop-length ends) at (ends_from 0 ends text (length ends) (omega arith) are)

-- the first steps of a path, as many as another has
record Fronts (fronts ends front text : List ℕ) : Type 0 where
  enough : length fronts ≤ length ends
  are : AreEnds 0 (take (length fronts) ends) (take (start_of 0 ends (length fronts)) text)
  steps : steps_between 0 (take (length fronts) ends) (take (start_of 0 ends (length fronts)) text) ≡ take (length (steps_between 0 fronts front)) (steps_between 0 ends text)

fronts_of : (fronts ends front text : List ℕ) → AreEnds 0 ends text → length fronts ≤ length ends → Fronts fronts ends front text
fronts_of fronts ends front text are enough = record {
  enough = enough;
  are = fewer_ends 0 ends text (length fronts) enough are;
  steps = fewer_steps 0 ends text (length fronts) enough are ∙ ap (λ n. take n (steps_between 0 ends text)) (sym (steps_length 0 fronts front));
}

-- where the ends of the one begin those of the other, the paths are compared by their texts
pub front_by_text : (fronts ends front text : List ℕ) → AreEnds 0 fronts front → AreEnds 0 ends text → starts_with nat_eq ends fronts ≡ true
    → starts_with nat_eq text front ≡ is_front (steps_between 0 fronts front) (steps_between 0 ends text)
front_by_text fronts ends front text ere are begin =
    let same : fronts ≡ take (length fronts) ends = bytes_same fronts (take (length fronts) ends) begin in
    let count : length fronts ≡ length (take (length fronts) ends) = ap length same in
    let enough : length fronts ≤ length ends = omega (arith, count, length-take (length fronts) ends) in
    let there = fronts_of fronts ends front text are enough in
    let long : start_of 0 ends (length fronts) ≡ length front =
    sym (last_of 0 ends (length fronts) enough) ∙ ap (λ (es : List ℕ). start_of 0 es (length es)) (sym same) ∙ last_end fronts front ere in
    let cut : take (start_of 0 ends (length fronts)) text ≡ take (length front) text = ap (λ n. take n text) long in
    both_ways (starts_with nat_eq text front) (is_front (steps_between 0 fronts front) (steps_between 0 ends text))
    (λ yes.
    let texts : front ≡ take (start_of 0 ends (length fronts)) text = bytes_same front (take (length front) text) yes ∙ sym cut in
    path_refl (steps_between 0 fronts front) _ (ap₂ (λ es t. steps_between 0 es t) same texts ∙ there.steps))
    (λ yes.
    let steps = path_same (steps_between 0 fronts front) _ yes in
    bytes_refl front (take (length front) text) (one_text fronts (take (length fronts) ends) front _ ere there.are (steps ∙ sym there.steps) ∙ cut))

-- and where they do not, the one is no front of the other
pub no_front : (fronts ends front text : List ℕ) → AreEnds 0 fronts front → AreEnds 0 ends text → starts_with nat_eq ends fronts ≡ false → is_front (steps_between 0 fronts front) (steps_between 0 ends text) ≡ false
no_front fronts ends front text ere are other =
    both_ways (is_front (steps_between 0 fronts front) (steps_between 0 ends text)) false
    (λ yes.
    let steps = path_same (steps_between 0 fronts front) (take (length (steps_between 0 fronts front)) (steps_between 0 ends text)) yes in
    let count : length (steps_between 0 fronts front) ≡ length (take (length (steps_between 0 fronts front)) (steps_between 0 ends text)) = ap length steps in
    let enough : length fronts ≤ length ends =
    omega (arith, count, steps_length 0 fronts front, steps_length 0 ends text, length-take (length (steps_between 0 fronts front)) (steps_between 0 ends text)) in
    let there = fronts_of fronts ends front text are enough in
    let same : fronts ≡ take (length fronts) ends = ends_of_steps 0 fronts (take (length fronts) ends) front _ ere there.are (steps ∙ sym there.steps) in
    let begin : starts_with nat_eq ends fronts ≡ true = bytes_refl fronts (take (length fronts) ends) same in
    sym other ∙ begin)
    (λ yes. cc yes)

-- ---- the steps behind the first

pub steps_from : (start : ℕ) (ends text : List ℕ) (i : ℕ) → i ≤ length ends → steps_between (start_of start ends i) (drop i ends) text ≡ drop i (steps_between start ends text)
steps_from start ends text zero within = refl
steps_from start [] text (suc i) within = absurd (omega arith)
steps_from start (end ∷ ends) text (suc i) within = steps_from end ends text i (omega arith)
