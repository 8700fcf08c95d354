-- Two lists of one length are equal where no byte of theirs differs.
use Rattle.std.proofs.Common.{◌≡◌, ◌↔◌, ◌⊎◌, inl, inr, ℕ, ◌+◌, ◌<◌, ◌≤◌, List, length, get_or, bit_or, bit_xor, eqb, ap, sym, ◌∙◌, arith}
use Rattle.std.specs.Prelude.{IsTrue}
use Rattle.std.specs.Int.Bits.{or_add_and, or_zero_l, xor_add_and, xor_self}
use Rattle.std.proofs.lemmas.Nat.{and_le_l, and_le_r}
use Rattle.std.proofs.lemmas.Bool.{cases_lt, eqb-true, eq-eqb}
use Rattle.std.proofs.lemmas.List.{ext_get_or}

-- the first i bytes are equal
abbrev pub SameBelow : List ℕ → List ℕ → ℕ → Type 0
SameBelow xs ys i = (k : ℕ) → k < i → get_or xs k 0 ≡ get_or ys k 0

none_set : (seen x : ℕ) → bit_or seen x ≡ 0 → (seen ≡ 0) × (x ≡ 0)
none_set seen x e =
    let sum = or_add_and seen x in
    (omega (arith, sum, e, and_le_r seen x), omega (arith, sum, e, and_le_l seen x))

none_apart : (a b : ℕ) → bit_xor a b ≡ 0 → a ≡ b
none_apart a b e = omega (arith, xor_add_and a b, e, and_le_l a b, and_le_r a b)

one_more : (xs ys : List ℕ) (i k : ℕ) → SameBelow xs ys i → get_or xs i 0 ≡ get_or ys i 0 → k < i + 1 → (k < i) ⊎ (i ≤ k) → get_or xs k 0 ≡ get_or ys k 0
one_more xs ys i k below here lt (inl before) = below k before
one_more xs ys i k below here lt (inr after) =
    let at : k ≡ i = omega arith in
    rw at here

-- one more byte
pub turn : (xs ys : List ℕ) (seen i : ℕ) → ((seen ≡ 0) ↔ SameBelow xs ys i) → (bit_or seen (bit_xor (get_or xs i 0) (get_or ys i 0)) ≡ 0) ↔ SameBelow xs ys (i + 1)
turn xs ys seen i so_far = (
  λ e.
      let both = none_set seen (bit_xor (get_or xs i 0) (get_or ys i 0)) e in
      λ k lt. one_more xs ys i k (so_far.0 both.0) (none_apart (get_or xs i 0) (get_or ys i 0) both.1) lt (cases_lt k i),
  λ same.
      let before : seen ≡ 0 = so_far.1 (λ k lt. same k (omega arith)) in
      let here = same i (omega arith) in
      rw (before, here) (or_zero_l (bit_xor (get_or ys i 0) (get_or ys i 0)) ∙ xor_self (get_or ys i 0)),
)

-- no byte differs just where the lists are equal
pub tells_equal : (xs ys : List ℕ) (seen i : ℕ) → ((seen ≡ 0) ↔ SameBelow xs ys i) → length xs ≤ i → length ys ≡ length xs → IsTrue (eqb seen 0) ↔ (ys ≡ xs)
tells_equal xs ys seen i so_far all long = (
  λ e. ext_get_or 0 ys xs long (λ k lt. sym (so_far.0 (eqb-true seen 0 e) k (omega arith))),
  λ same. eq-eqb seen 0 (so_far.1 (λ k lt. ap (λ (zs : List ℕ). get_or zs k 0) (sym same))),
)
