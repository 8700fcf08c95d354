-- One word of the stream, and the generator behind it; salts in turn.
use Rattle.std.proofs.Common.{◌≡◌, ℕ, zero, suc, ◌+◌, ◌^◌, ◌%◌, ◌<◌, ◌⊎◌, inl, inr, List, [], ◌∷◌, ◌++◌, length, Some, slice_index_or, refl, ap, sym, subst, ◌∙◌, arith, add-one}
use Rattle.std.specs.Prelude.{slice_get}
use Rattle.std.specs.Int.{w32, to_le_bytes}
use Rattle.std.proofs.lemmas.List.{length-append}
use Rattle.rand_chacha.specs.ChaCha.{ChaCha, next_word, word_at, key_of}
use Rattle.claim_tree.specs.Tree.{Text}
use Rattle.claim_tree.proofs.Counting.{before_or_at}
use Rattle.issuer_core.specs.Salts.{salt_of}

abbrev pub at : List ℕ → ℕ → ChaCha
at seed i = record { key = key_of seed; stream = 0; word_pos = i }

pub step : (seed : List ℕ) (i j : ℕ) (g next : ChaCha) (w : ℕ) → j ≡ i + 1 → j < 2 ^ 68 → g ≡ at seed i → (w, next) ≡ next_word 10 g
    → (w ≡ word_at 10 (key_of seed) 0 i) × (next ≡ at seed j)
step seed i j g next w one h is e =
    let both : (w, next) ≡ next_word 10 (at seed i) = e ∙ ap (next_word 10) is in
    let small : (i + 1) % 2 ^ 68 ≡ j = omega arith in
    (ap (λ p. p.0) both, ap (λ p. p.1) both ∙ ap (at seed) small)

-- the bytes of a word, one by one
pub four : (bs : List ℕ) (w v : ℕ) → bs ≡ to_le_bytes w32 w → w ≡ v
    → slice_index_or bs 0 0 ∷ slice_index_or bs 1 0 ∷ slice_index_or bs 2 0 ∷ slice_index_or bs 3 0 ∷ [] ≡ to_le_bytes w32 v
four bs w v e f = rw (e, f) refl

pub joined : (a b c d x y z w : List ℕ) → a ≡ x → b ≡ y → c ≡ z → d ≡ w → a ++ (b ++ (c ++ d)) ≡ x ++ (y ++ (z ++ w))
joined a b c d x y z w p q r s = cc

-- ---- the first salts

abbrev pub salts_before : List ℕ → ℕ → List Text
salts_before seed zero = []
salts_before seed (suc n) = salts_before seed n ++ salt_of seed n ∷ []

pub salts_count : (seed : List ℕ) (n : ℕ) → length (salts_before seed n) ≡ n
salts_count seed zero = refl
salts_count seed (suc n) = omega (arith, length-append (salts_before seed n) (salt_of seed n ∷ []), salts_count seed n)

within : {X : Type 0} (xs ys : List X) (k : ℕ) → k < length xs → slice_get (xs ++ ys) k ≡ slice_get xs k
within [] ys k h = absurd (omega arith)
within (x ∷ xs) ys zero h = refl
within (x ∷ xs) ys (suc k) h = within xs ys k (omega arith)

behind : {X : Type 0} (xs : List X) (y : X) → slice_get (xs ++ y ∷ []) (length xs) ≡ Some y
behind [] y = refl
behind (x ∷ xs) y = behind xs y

pub each_salt : (seed : List ℕ) (n k : ℕ) → k < n → slice_get (salts_before seed n) k ≡ Some (salt_of seed k)
each_salt seed zero k h = absurd (omega arith)
each_salt seed (suc n) k h = go (before_or_at k n (omega (arith, h))) (each_salt seed n k)
  where
    go : (k < n) ⊎ (k ≡ n) → (k < n → slice_get (salts_before seed n) k ≡ Some (salt_of seed k)) → slice_get (salts_before seed n ++ salt_of seed n ∷ []) k ≡ Some (salt_of seed k)
    go (inl l) ih = within (salts_before seed n) (salt_of seed n ∷ []) k (omega (arith, l, salts_count seed n)) ∙ ih l
    go (inr e) ih =
        let last : slice_get (salts_before seed n ++ salt_of seed n ∷ []) n ≡ Some (salt_of seed n) = subst (λ m. slice_get (salts_before seed n ++ salt_of seed n ∷ []) m ≡ Some (salt_of seed n)) (salts_count seed n) (behind (salts_before seed n) (salt_of seed n)) in
        subst (λ m. slice_get (salts_before seed n ++ salt_of seed n ∷ []) m ≡ Some (salt_of seed m)) (sym e) last

pub one_more : (seed : List ℕ) (n : ℕ) (salts : List Text) (salt : Text) → salts ≡ salts_before seed n → salt ≡ salt_of seed n → salts ++ salt ∷ [] ≡ salts_before seed (n + 1)
one_more seed n salts salt e f = rw (e, f, add-one n) refl
