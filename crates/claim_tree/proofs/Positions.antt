-- The steps into an array.
use Rattle.std.proofs.Common.{◌≡◌, ◌≢◌, ℕ, zero, suc, ◌+◌, ◌<◌, ◌^◌, None, false, bytes_eq, decimal, refl, sym, ap, subst, ◌∙◌, arith}
use Rattle.std.proofs.lemmas.Fmt.{decimal_injective}
use Rattle.std.proofs.lemmas.Slice.Eq.{bytes_eq-Decides}
use Rattle.std.proofs.lemmas.Bool.{false_from_ne_true}
use Rattle.claim_tree.specs.Tree.{Text, Elements, no_elements, element, element_at, elements_len}
use Rattle.claim_tree.specs.Path.{element_on}

pub unequal : (a b : Text) → a ≢ b → bytes_eq a b ≡ false
unequal a b other = false_from_ne_true (bytes_eq a b) (λ e. other ((bytes_eq-Decides a b).0 e))

-- no position has these digits
pub element_on-none : (es : Elements) (i : ℕ) (step : Text) → ((j : ℕ) → j < i + elements_len es → decimal j ≢ step) → element_on es i step ≡ None
element_on-none no_elements i step none = refl
element_on-none (element t es) i step none =
    rw (unequal (decimal i) step (none i (omega arith))) (element_on-none es (suc i) step (λ j below. none j (omega (arith, below))))

-- the element that is j further on has these digits
pub element_on-some : (es : Elements) (i j : ℕ) (step : Text) → i + j < 2 ^ 64 → decimal (i + j) ≡ step → element_on es i step ≡ element_at es j
element_on-some no_elements i j step fits e = refl
element_on-some (element t es) i zero step fits e =
    let same : decimal i ≡ step = subst (λ k. decimal k ≡ step) (omega arith) e in
    rw ((bytes_eq-Decides (decimal i) step).1 same) refl
element_on-some (element t es) i (suc j) step fits e =
    let other : decimal i ≢ step = λ h. let same = decimal_injective i (i + suc j) (omega (arith, fits)) fits (h ∙ sym e) in omega (arith, same) in
    let next : suc i + j ≡ i + suc j = omega arith in
    rw (unequal (decimal i) step other) (element_on-some es (suc i) j step (omega (arith, fits)) (ap decimal next ∙ e))
