-- Two tables of 16, read at the halves of each byte of a load.
use Rattle.std.proofs.Common.{◌≡◌, ◌⊎◌, inl, inr, ℕ, ◌+◌, ◌*◌, ◌/◌, ◌<◌, ◌≤◌, List, [], ◌∷◌, ◌++◌, map, length, get_or, bit_and, Fits, w8, refl, sym, ap, subst, ◌∙◌, arith}
use lib.Bits.{and_le_r}
use lib.Lanes.{Each1}
use Rattle.std.proofs.lemmas.Bool.{cases_lt}
use Rattle.std.proofs.lemmas.List.{get_or-map, length-map, ext_get_or, get_or_append_left, get_or-append-add}
use Rattle.std.proofs.lemmas.Simd.{swz_l, SwzOk, SwzOk-from_below, Each1-get_or, length-swz_l, get_or-swz_l_below, map-map}

pub high_small : (v : List ℕ) → Each1 (Fits w8) v → Each1 (λ j. j < 16) (map (λ x. x / 16) v)
high_small [] fits = tt
high_small (x ∷ v) fits = let byte = fits.0.fits in (omega arith, high_small v fits.1)

pub low_small : (v : List ℕ) → Each1 (λ j. j < 16) (map (λ x. bit_and x 15) v)
low_small [] = tt
low_small (x ∷ v) = (omega (arith, and_le_r x 15), low_small v)

-- the positions may be looked up
pub are_places : (f : ℕ → ℕ) (v js : List ℕ) → length v ≡ 32 → js ≡ map f v → Each1 (λ j. j < 16) (map f v) → SwzOk w8 16 32 0 js
are_places f v js long is small = subst (SwzOk w8 16 32 0) (sym is) (SwzOk-from_below w8 16 2 32 0 (map f v) refl (omega (arith, length-map v f)) small)

in_half : (t : List ℕ) (k j : ℕ) → length t ≡ 16 → k < 32 → j < 16 → (k < 16) ⊎ (16 ≤ k) → get_or (t ++ t) (16 * ((0 + k) / 16) + j) 0 ≡ get_or t j 0
in_half t k j long within small (inl low) =
    let at : 16 * ((0 + k) / 16) + j ≡ j = omega arith in
    ap (λ i. get_or (t ++ t) i 0) at ∙ get_or_append_left t t 0 j (omega arith)
in_half t k j long within small (inr high) =
    let at : 16 * ((0 + k) / 16) + j ≡ length t + j = omega arith in
    ap (λ i. get_or (t ++ t) i 0) at ∙ get_or-append-add t t j 0

-- a table that stands in both halves of a vector is read at each position
pub looked_up : (t : List ℕ) (f : ℕ → ℕ) (v js : List ℕ) → length t ≡ 16 → length v ≡ 32 → js ≡ map f v → Each1 (λ j. j < 16) (map f v)
    → swz_l w8 16 (t ++ t) 0 js ≡ map (λ x. get_or t (f x) 0) v
looked_up t f v js whole long is small =
    let ps = map f v in
    let many : length ps ≡ 32 = length-map v f ∙ long in
    ap (swz_l w8 16 (t ++ t) 0) is
    ∙ ext_get_or 0 (swz_l w8 16 (t ++ t) 0 ps) (map (λ j. get_or t j 0) ps)
    (length-swz_l w8 16 (t ++ t) 0 ps ∙ sym (length-map ps (λ j. get_or t j 0)))
    (λ k lt.
    let within : k < length ps = omega (arith, length-swz_l w8 16 (t ++ t) 0 ps) in
    let place = Each1-get_or (λ j. j < 16) ps k 0 within small in
    get_or-swz_l_below w8 16 (t ++ t) 0 ps k within place
    ∙ in_half t k (get_or ps k 0) whole (omega arith) place (cases_lt k 16)
    ∙ sym (get_or-map (λ j. get_or t j 0) ps k 0 0 within))
    ∙ map-map (λ j. get_or t j 0) f v
