-- The number of members that a word says.
use Rattle.std.proofs.Common.{◌≡◌, ◌≢◌, ◌⊎◌, inl, inr, ℕ, zero, suc, ◌+◌, ◌<◌, ◌≤◌, ◌^◌, List, Bool, true, false, bytes_eq, decimal, Some, None, refl, sym, ap, ◌∙◌, arith}
use Rattle.std.specs.Prelude.{if◌then◌else◌}
use Rattle.std.proofs.Math.Arith.{le_of_le-suc-ne}
use Rattle.std.proofs.lemmas.Fmt.{decimal_injective}
use Rattle.sd_outside.specs.Limits.{members_max}
use Rattle.sd_outside.proofs.Lists.{bytes_same, bytes_refl}
use Rattle.sdjwt_cli.specs.Generated.{number_up_to, count_of}

number_none : (n : ℕ) (word : List ℕ) → ((i : ℕ) → 0 < i → i ≤ n → decimal i ≢ word) → number_up_to n word ≡ None
number_none zero word differs = refl
number_none (suc n) word differs = go (bytes_eq (decimal (suc n)) word) refl (number_none n word (λ i low high. differs i low (omega (arith, high))))
  where
    go : (b : Bool) → bytes_eq (decimal (suc n)) word ≡ b → number_up_to n word ≡ None → (if b then Some (suc n) else number_up_to n word) ≡ None
    go true e ih = absurd (differs (suc n) (omega arith) (omega arith) (bytes_same (decimal (suc n)) word e))
    go false e ih = ih

number_some : (n i : ℕ) (word : List ℕ) → n < 2 ^ 64 → 0 < i → i ≤ n → decimal i ≡ word → number_up_to n word ≡ Some i
number_some zero i word fits low high is = absurd (omega (arith, low, high))
number_some (suc n) i word fits low high is = go (bytes_eq (decimal (suc n)) word) refl (λ more. number_some n i word (omega (arith, fits)) low more is)
  where
    go : (b : Bool) → bytes_eq (decimal (suc n)) word ≡ b → (i ≤ n → number_up_to n word ≡ Some i) → (if b then Some (suc n) else number_up_to n word) ≡ Some i
    go true e ih = ap Some (decimal_injective (suc n) i fits (omega (arith, high, fits)) (bytes_same (decimal (suc n)) word e ∙ sym is))
    go false e ih =
        ih (le_of_le-suc-ne {k = i} {n = n} high (λ same. let clash : false ≡ true = sym e ∙ bytes_refl (decimal (suc n)) word (ap decimal (sym same) ∙ is) in cc clash))

pub counted_none : (word : List ℕ) → ((i : ℕ) → i < members_max + 1 → decimal i ≢ word) → count_of word ≡ None
unfolding count_of
counted_none word none = number_none members_max word (λ i low high. none i (omega (arith, high)))

pub counted_some : (i : ℕ) (word : List ℕ) → decimal i ≡ word → 0 < i → i ≤ members_max → count_of word ≡ Some i
unfolding count_of
counted_some i word is low high = number_some members_max i word (omega arith) low high is

pub counted_other : (i : ℕ) (word : List ℕ) → i < 2 ^ 64 → decimal i ≡ word → (i ≡ 0) ⊎ (members_max < i) → count_of word ≡ None
unfolding count_of
counted_other i word fits is outside = number_none members_max word (λ j low high same. clash j low high (decimal_injective j i (omega (arith, high)) fits (same ∙ sym is)) outside)
  where
    clash : (j : ℕ) → 0 < j → j ≤ members_max → j ≡ i → (i ≡ 0) ⊎ (members_max < i) → ⊥
    clash j low high same (inl none) = omega (arith, low, same, none)
    clash j low high same (inr more) = omega (arith, high, same, more)
