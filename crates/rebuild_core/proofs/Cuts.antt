-- The pieces of a list that is cut.
use Rattle.std.proofs.Common.{◌≡◌, ℕ, zero, suc, ◌+◌, ◌-◌, ◌<◌, ◌≤◌, List, [], ◌∷◌, length, get_or, take, drop, add-one, refl, ap, arith}
use Rattle.rebuild_core.specs.Graph.{pieces_at, Ascends, roots_in, rows_in}

pub cut_at : (start : ℕ) (ends ks : List ℕ) (i : ℕ) (d : List ℕ) → i < length ends
    → get_or (pieces_at start ends ks) i d ≡ take (get_or ends i 0 - get_or (start ∷ ends) i 0) (drop (get_or (start ∷ ends) i 0) ks)
cut_at start [] ks i d h = absurd (omega arith)
cut_at start (end ∷ ends) ks zero d h = refl
cut_at start (end ∷ ends) ks (suc i) d h = cut_at end ends ks i d (omega arith)

pub ascends_at : (start : ℕ) (ends : List ℕ) (n i d : ℕ) → Ascends start ends n → i < length ends
    → (get_or (start ∷ ends) i 0 ≤ get_or ends i d) × (get_or ends i d ≤ n)
ascends_at start [] n i d a h = absurd (omega arith)
ascends_at start (end ∷ ends) n zero d a h = (a.0, last end ends a.1)
  where
    last : (e : ℕ) (es : List ℕ) → Ascends e es n → e ≤ n
    last e [] b = b
    last e (f ∷ es) b = omega (arith, b.0, last f es b.1)
ascends_at start (end ∷ ends) n (suc i) d a h = ascends_at end ends n i d a.1 (omega arith)

pub first_row : (ends ks : List ℕ) (n : ℕ) → length ends ≡ suc n → get_or (pieces_at 0 ends ks) 0 [] ≡ roots_in ends ks
first_row [] ks n h = refl
first_row (end ∷ ends) ks n h = refl

pub later_row : (ends ks : List ℕ) (n k : ℕ) → length ends ≡ suc n → get_or (pieces_at 0 ends ks) (k + 1) [] ≡ get_or (rows_in ends ks) k []
later_row [] ks n k h = absurd (omega (arith, h))
later_row (end ∷ ends) ks n k h = rw (add-one k) refl

pub length-cut : (start : ℕ) (ends ks : List ℕ) → length (pieces_at start ends ks) ≡ length ends
length-cut start [] ks = refl
length-cut start (end ∷ ends) ks = ap suc (length-cut end ends ks)

pub length-rows_in : (ends ks : List ℕ) (n : ℕ) → length ends ≡ suc n → length (rows_in ends ks) ≡ n
length-rows_in [] ks n h = absurd (omega (arith, h))
length-rows_in (end ∷ ends) ks n h = omega (arith, h, length-cut end ends ks)
