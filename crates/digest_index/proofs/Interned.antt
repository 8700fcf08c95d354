-- What interning a text changes, and what stays.
use Rattle.std.proofs.Common.{◌≡◌, suc, ◌<◌, Bool, true, false, cond, List, [], ◌∷◌, ◌++◌, length, refl, ap, ◌∙◌, arith}
use Rattle.std.specs.Prelude.{bytes_eq}
use Rattle.std.specs.List.{IsDistinct, AllByRecursion}
use Rattle.std.proofs.lemmas.Map.Keys.{IsDistinct-head, IsDistinct-tail, IsDistinct-cons}
use Rattle.digest_index.specs.Index.{Text, position_or_end, interned}
use Rattle.digest_index.proofs.Positions.{bytes_eq-flip}

-- a text that is there changes nothing
pub interned-there : (t : Text) (xs : List Text) → position_or_end t xs < length xs → interned t xs ≡ xs
interned-there t [] h = absurd (omega (arith, h))
interned-there t (x ∷ xs) h = go (bytes_eq t x) h (interned-there t xs)
  where
    go : (b : Bool) → cond b 0 (suc (position_or_end t xs)) < length (x ∷ xs) → (position_or_end t xs < length xs → interned t xs ≡ xs)
        → cond b (x ∷ xs) (x ∷ interned t xs) ≡ x ∷ xs
    go true h ih = refl
    go false h ih = ap (λ (ys : List Text). x ∷ ys) (ih (omega (arith, h)))

-- a new text goes to the end
pub interned-new : (t : Text) (xs : List Text) → position_or_end t xs ≡ length xs → interned t xs ≡ xs ++ t ∷ []
interned-new t [] h = refl
interned-new t (x ∷ xs) h = go (bytes_eq t x) h (interned-new t xs)
  where
    go : (b : Bool) → cond b 0 (suc (position_or_end t xs)) ≡ length (x ∷ xs) → (position_or_end t xs ≡ length xs → interned t xs ≡ xs ++ t ∷ [])
        → cond b (x ∷ xs) (x ∷ interned t xs) ≡ x ∷ (xs ++ t ∷ [])
    go true h ih = absurd (omega (arith, h))
    go false h ih = ap (λ (ys : List Text). x ∷ ys) (ih (omega (arith, h)))

-- ---- what holds of each text

pub AllByRecursion-interned : (P : Text → Type 0) (t : Text) (xs : List Text) → AllByRecursion P xs → P t → AllByRecursion P (interned t xs)
AllByRecursion-interned P t [] all p = (p, tt)
AllByRecursion-interned P t (x ∷ xs) all p = go (bytes_eq t x) (AllByRecursion-interned P t xs all.1 p)
  where
    go : (b : Bool) → AllByRecursion P (interned t xs) → AllByRecursion P (cond b (x ∷ xs) (x ∷ interned t xs))
    go true ih = all
    go false ih = (all.0, ih)

-- distinct texts stay distinct
pub IsDistinct-interned : (t : Text) (xs : List Text) → IsDistinct bytes_eq xs → IsDistinct bytes_eq (interned t xs)
IsDistinct-interned t [] d = IsDistinct-cons bytes_eq t [] tt d
IsDistinct-interned t (x ∷ xs) d = go (bytes_eq t x) refl (IsDistinct-interned t xs (IsDistinct-tail bytes_eq x xs d))
  where
    go : (b : Bool) → bytes_eq t x ≡ b → IsDistinct bytes_eq (interned t xs) → IsDistinct bytes_eq (cond b (x ∷ xs) (x ∷ interned t xs))
    go true e ih = d
    go false e ih = IsDistinct-cons bytes_eq x (interned t xs) (AllByRecursion-interned (λ y. bytes_eq x y ≡ false) t xs (IsDistinct-head bytes_eq x xs d) (bytes_eq-flip x t ∙ e)) ih
