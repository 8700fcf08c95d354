-- The texts of a list that are still to come.
use Rattle.std.proofs.Common.{◌≡◌, ◌+◌, ℕ, zero, suc, List, [], ◌∷◌, drop, slice_get, Some, ap, subst, arith}
use Rattle.claim_tree.specs.Tree.{Text}

pub drop_next : (xs : List Text) (n : ℕ) (x : Text) → slice_get xs n ≡ Some x → drop n xs ≡ x ∷ drop (suc n) xs
drop_next [] n x e = absurd (cc e)
drop_next (y ∷ xs) zero x e = let both : Some y ≡ Some x = e in ap (λ (z : Text). z ∷ xs) (cc both)
drop_next (y ∷ xs) (suc n) x e = drop_next xs n x e

-- the place behind, as code counts it
pub drop_more : (xs : List Text) (n : ℕ) (x : Text) → slice_get xs n ≡ Some x → drop n xs ≡ x ∷ drop (n + 1) xs
drop_more xs n x e =
    let place : suc n ≡ n + 1 = omega arith in
    subst (λ k. drop n xs ≡ x ∷ drop k xs) place (drop_next xs n x e)
