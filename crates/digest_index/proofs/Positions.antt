-- Where a text stands in a list.
use Rattle.std.proofs.Common.{◌≡◌, ◌↔◌, ◌⊎◌, inl, inr, ℕ, zero, suc, ◌<◌, ◌≤◌, Bool, true, false, cond, List, [], ◌∷◌, length, None, Some, refl, sym, ap, subst, ◌∙◌, arith}
use Rattle.std.specs.Prelude.{bytes_eq, slice_get, option_map}
use Rattle.std.specs.List.{Contains, IsDistinct, AllByRecursion}
use Rattle.std.specs.Cmp.Lexicographic.{nat_list_eq_equiv}
use Rattle.std.proofs.lemmas.Bool.{cases_lt}
use Rattle.std.proofs.lemmas.Option.{slice_get-get_or, get_or_from_slice_get}
use Rattle.std.proofs.lemmas.Slice.Eq.{bytes_eq-Decides}
use Rattle.std.proofs.lemmas.Map.Keys.{IsDistinct-head, IsDistinct-tail}
use Rattle.digest_index.specs.Index.{Text, position_of, position_or_end}

-- texts are compared the same both ways
pub bytes_eq-flip : (t u : Text) → bytes_eq t u ≡ bytes_eq u t
bytes_eq-flip t u = (nat_list_eq_equiv).symm t u

-- ---- the position, or the length

pub position_or_end-within : (t : Text) (xs : List Text) → position_or_end t xs ≤ length xs
position_or_end-within t [] = omega arith
position_or_end-within t (x ∷ xs) = go (bytes_eq t x) (position_or_end-within t xs)
  where
    go : (b : Bool) → position_or_end t xs ≤ length xs → cond b 0 (suc (position_or_end t xs)) ≤ length (x ∷ xs)
    go true ih = omega arith
    go false ih = omega (arith, ih)

-- a text that is there stands at its position
pub slice_get-position_or_end : (t : Text) (xs : List Text) → position_or_end t xs < length xs → slice_get xs (position_or_end t xs) ≡ Some t
slice_get-position_or_end t [] h = absurd (omega (arith, h))
slice_get-position_or_end t (x ∷ xs) h = go (bytes_eq t x) refl h (slice_get-position_or_end t xs)
  where
    go : (b : Bool) → bytes_eq t x ≡ b → cond b 0 (suc (position_or_end t xs)) < length (x ∷ xs) → (position_or_end t xs < length xs → slice_get xs (position_or_end t xs) ≡ Some t)
        → slice_get (x ∷ xs) (cond b 0 (suc (position_or_end t xs))) ≡ Some t
    go true e h ih = ap Some (sym ((bytes_eq-Decides t x).0 e))
    go false e h ih = ih (omega (arith, h))

-- and nowhere before it
pub position_or_end-first : (t : Text) (xs : List Text) (i : ℕ) → slice_get xs i ≡ Some t → position_or_end t xs ≤ i
position_or_end-first t [] i h = cc
position_or_end-first t (x ∷ xs) i h = go (bytes_eq t x) refl i h (position_or_end-first t xs)
  where
    go : (b : Bool) → bytes_eq t x ≡ b → (i : ℕ) → slice_get (x ∷ xs) i ≡ Some t → ((i : ℕ) → slice_get xs i ≡ Some t → position_or_end t xs ≤ i)
        → cond b 0 (suc (position_or_end t xs)) ≤ i
    go true e i h ih = omega arith
    go false e zero h ih = let same : t ≡ x = cc in let f : bytes_eq t x ≡ true = (bytes_eq-Decides t x).1 same in cc
    go false e (suc i) h ih = omega (arith, ih i h)

-- the position is below the length exactly where the text is there
pub is_there : (t : Text) (xs : List Text) → (position_or_end t xs < length xs) ↔ Contains xs t
is_there t xs = (
  λ h. (position_or_end t xs, h, get_or_from_slice_get xs (position_or_end t xs) t t (slice_get-position_or_end t xs h)),
  λ c. let stands : slice_get xs c.0 ≡ Some t = slice_get-get_or xs c.0 t c.1 ∙ ap Some c.2 in omega (arith, position_or_end-first t xs c.0 stands, c.1),
)

-- ---- the position, where there is one

pub position_of-there : (t : Text) (xs : List Text) → position_or_end t xs < length xs → position_of t xs ≡ Some (position_or_end t xs)
position_of-there t [] h = absurd (omega (arith, h))
position_of-there t (x ∷ xs) h = go (bytes_eq t x) h (position_of-there t xs)
  where
    go : (b : Bool) → cond b 0 (suc (position_or_end t xs)) < length (x ∷ xs) → (position_or_end t xs < length xs → position_of t xs ≡ Some (position_or_end t xs))
        → cond b (Some 0) (option_map suc (position_of t xs)) ≡ Some (cond b 0 (suc (position_or_end t xs)))
    go true h ih = refl
    go false h ih = ap (option_map suc) (ih (omega (arith, h)))

pub position_of-new : (t : Text) (xs : List Text) → position_or_end t xs ≡ length xs → position_of t xs ≡ None
position_of-new t [] h = refl
position_of-new t (x ∷ xs) h = go (bytes_eq t x) h (position_of-new t xs)
  where
    go : (b : Bool) → cond b 0 (suc (position_or_end t xs)) ≡ length (x ∷ xs) → (position_or_end t xs ≡ length xs → position_of t xs ≡ None)
        → cond b (Some 0) (option_map suc (position_of t xs)) ≡ None
    go true h ih = absurd (omega (arith, h))
    go false h ih = ap (option_map suc) (ih (omega (arith, h)))

pub position_of-Some : (t : Text) (xs : List Text) (i : ℕ) → position_of t xs ≡ Some i → position_or_end t xs ≡ i
position_of-Some t xs i h = go (cases_lt (position_or_end t xs) (length xs))
  where
    go : (position_or_end t xs < length xs) ⊎ (length xs ≤ position_or_end t xs) → position_or_end t xs ≡ i
    go (inl w) = let e : Some (position_or_end t xs) ≡ Some i = sym (position_of-there t xs w) ∙ h in cc
    go (inr w) = let e : None ≡ Some i = sym (position_of-new t xs (omega (arith, w, position_or_end-within t xs))) ∙ h in cc

pub position_of-None : (t : Text) (xs : List Text) → position_of t xs ≡ None → position_or_end t xs ≡ length xs
position_of-None t xs h = go (cases_lt (position_or_end t xs) (length xs))
  where
    go : (position_or_end t xs < length xs) ⊎ (length xs ≤ position_or_end t xs) → position_or_end t xs ≡ length xs
    go (inl w) = let e : Some (position_or_end t xs) ≡ None = sym (position_of-there t xs w) ∙ h in cc
    go (inr w) = omega (arith, w, position_or_end-within t xs)

-- the text stands at its position
pub slice_get-position_of : (t : Text) (xs : List Text) (i : ℕ) → position_of t xs ≡ Some i → slice_get xs i ≡ Some t
slice_get-position_of t xs i h = go (cases_lt (position_or_end t xs) (length xs))
  where
    go : (position_or_end t xs < length xs) ⊎ (length xs ≤ position_or_end t xs) → slice_get xs i ≡ Some t
    go (inl w) = ap (slice_get xs) (sym (position_of-Some t xs i h)) ∙ slice_get-position_or_end t xs w
    go (inr w) = let e : None ≡ Some i = sym (position_of-new t xs (omega (arith, w, position_or_end-within t xs))) ∙ h in cc

-- ---- distinct texts

each_at : (P : Text → Type 0) (xs : List Text) (i : ℕ) (u : Text) → AllByRecursion P xs → slice_get xs i ≡ Some u → P u
each_at P [] i u all h = cc
each_at P (x ∷ xs) zero u all h = let same : x ≡ u = cc in subst P same all.0
each_at P (x ∷ xs) (suc i) u all h = each_at P xs i u all.1 h

-- a text that stands at i has this position
pub position_or_end-at : (t : Text) (xs : List Text) (i : ℕ) → IsDistinct bytes_eq xs → slice_get xs i ≡ Some t → position_or_end t xs ≡ i
position_or_end-at t [] i d h = cc
position_or_end-at t (x ∷ xs) zero d h = let same : t ≡ x = cc in rw ((bytes_eq-Decides t x).1 same) refl
position_or_end-at t (x ∷ xs) (suc i) d h =
    let apart : bytes_eq t x ≡ false = bytes_eq-flip t x ∙ each_at (λ y. bytes_eq x y ≡ false) xs i t (IsDistinct-head bytes_eq x xs d) h in
    rw apart (ap suc (position_or_end-at t xs i (IsDistinct-tail bytes_eq x xs d) h))
