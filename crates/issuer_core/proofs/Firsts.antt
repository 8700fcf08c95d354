-- The first element of a list, and the first that passes a test.
use Rattle.std.proofs.Common.{◌≡◌, ℕ, zero, suc, ◌+◌, ◌<◌, List, [], ◌∷◌, ◌++◌, map, Bool, true, false, cond, Some, None, option_map, refl, sym, subst, ◌∙◌, arith}
use Rattle.std.specs.Prelude.{slice_get}
use Rattle.std.specs.List.{position_from}
use Rattle.sd_outside.specs.Lists.{IsSuchAt, IsLeast, AtNone}

-- ---- the first element

pub first_none : {X : Type 0} (xs ys : List X) → slice_get xs 0 ≡ None → slice_get (xs ++ ys) 0 ≡ slice_get ys 0
first_none [] ys h = refl
first_none (x ∷ xs) ys h = cc h

pub first_some : {X : Type 0} (xs ys : List X) (x : X) → slice_get xs 0 ≡ Some x → slice_get (xs ++ ys) 0 ≡ Some x
first_some [] ys x h = cc h
first_some (y ∷ xs) ys x h = h

pub first_map : {X Y : Type 0} (f : X → Y) (xs : List X) → slice_get (map f xs) 0 ≡ option_map f (slice_get xs 0)
first_map f [] = refl
first_map f (x ∷ xs) = refl

pub no_first : {X : Type 0} (xs : List X) → slice_get xs 0 ≡ None → xs ≡ []
no_first [] h = refl
no_first (x ∷ xs) h = cc h

pub both_empty : {X : Type 0} (xs ys : List X) → xs ++ ys ≡ [] → (xs ≡ []) × (ys ≡ [])
both_empty [] ys h = (refl, h)
both_empty (x ∷ xs) ys h = cc h

pub none_mapped : {X Y : Type 0} (f : X → Y) (xs : List X) → map f xs ≡ [] → xs ≡ []
none_mapped f [] h = refl
none_mapped f (x ∷ xs) h = cc h

-- ---- the first that passes a test

-- the test tells whether an element is such
pub record Tells {X : Type 0} (IsSuch : X → Type 0) (test : X → Bool) : Type 0 where
  pub is : (x : X) → test x ≡ true → IsSuch x
  pub passes : (x : X) → IsSuch x → test x ≡ true

module _ {X : Type 0} (IsSuch : X → Type 0) (test : X → Bool) (tells : Tells IsSuch test) where
  abbrev Found : ℕ → List X → ℕ → Type 0
  Found i xs k = (j : ℕ) × (k ≡ i + j) × IsLeast (IsSuchAt IsSuch xs) j

  passed : (x : X) → test x ≡ false → IsSuch x → ⊥
  passed x e h = let clash : false ≡ true = sym e ∙ tells.passes x h in cc clash

  none_earlier : (x : X) (xs : List X) (j : ℕ) → test x ≡ false → IsLeast (IsSuchAt IsSuch xs) j → (q : ℕ) → q < suc j → IsSuchAt IsSuch (x ∷ xs) q → ⊥
  none_earlier x xs j e least zero less h = passed x e (subst IsSuch h.1 h.2)
  none_earlier x xs j e least (suc q) less h = least.first q (omega (arith, less)) h

  found_from : (i : ℕ) (xs : List X) (k : ℕ) → position_from test i xs ≡ Some k → Found i xs k
  found_from i [] k h = cc h
  found_from i (x ∷ xs) k h = go (test x) refl h (found_from (i + 1) xs k)
    where
      go : (b : Bool) → test x ≡ b → cond b (Some i) (position_from test (i + 1) xs) ≡ Some k → (position_from test (i + 1) xs ≡ Some k → Found (i + 1) xs k) → Found i (x ∷ xs) k
      go true e f ih =
          let same : i ≡ k = cc f in
          (0, omega (arith, same), record { fails = (x, refl, tells.is x e); first = λ q less. absurd (omega (arith, less)) })
      go false e f ih =
          let w = ih f in
          (suc w.0, omega (arith, w.1), record { fails = w.2.fails; first = none_earlier x xs w.0 e w.2 })

  none_from : (i : ℕ) (xs : List X) → position_from test i xs ≡ None → AtNone (IsSuchAt IsSuch xs)
  none_from i [] h = λ q s. elim s.1 [ ]
  none_from i (x ∷ xs) h = go (test x) refl h (none_from (i + 1) xs)
    where
      more : test x ≡ false → AtNone (IsSuchAt IsSuch xs) → (q : ℕ) → IsSuchAt IsSuch (x ∷ xs) q → ⊥
      more e rest zero s = passed x e (subst IsSuch s.1 s.2)
      more e rest (suc q) s = rest q s

      go : (b : Bool) → test x ≡ b → cond b (Some i) (position_from test (i + 1) xs) ≡ None → (position_from test (i + 1) xs ≡ None → AtNone (IsSuchAt IsSuch xs)) → AtNone (IsSuchAt IsSuch (x ∷ xs))
      go true e f ih = cc f
      go false e f ih = more e (ih f)

  pub found_first : (xs : List X) (k : ℕ) → position_from test 0 xs ≡ Some k → IsLeast (IsSuchAt IsSuch xs) k
  found_first xs k h = let w = found_from 0 xs k h in subst (IsLeast (IsSuchAt IsSuch xs)) (let same : w.0 ≡ k = omega (arith, w.1) in same) w.2

  pub found_none : (xs : List X) → position_from test 0 xs ≡ None → AtNone (IsSuchAt IsSuch xs)
  found_none xs h = none_from 0 xs h
