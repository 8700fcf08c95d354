-- Elements of a list and their positions, counted from 0.
use Rattle.std.specs.Prelude.{◌≡◌, ℕ, zero, suc, ◌<◌, List, [], ◌∷◌, ◌⊎◌}

-- the element at position i is x
abbrev pub StandsAt : {X : Type 0} → List X → ℕ → X → Type 0
StandsAt [] i x = ⊥
StandsAt (y ∷ ys) zero x = x ≡ y
StandsAt (y ∷ ys) (suc i) x = StandsAt ys i x

-- the element at position i is such
abbrev pub IsSuchAt : {X : Type 0} → (X → Type 0) → List X → ℕ → Type 0
IsSuchAt {X} IsSuch xs i = (x : X) × StandsAt xs i x × IsSuch x

-- x is an element
abbrev pub In : {X : Type 0} → X → List X → Type 0
In x [] = ⊥
In x (y ∷ ys) = (x ≡ y) ⊎ In x ys

-- the element at a position equals an earlier one
abbrev pub Repeats : {X : Type 0} → List X → ℕ → Type 0
Repeats {X} xs position =
    (x : X) × StandsAt xs position x × (earlier : ℕ) × (earlier < position) × StandsAt xs earlier x

-- nothing fails, at any position
abbrev pub AtNone : (ℕ → Type 0) → Type 0
AtNone Fails = (position : ℕ) → Fails position → ⊥

-- it fails at this position, and at no earlier one
pub record IsLeast (Fails : ℕ → Type 0) (position : ℕ) : Type 0 where
  pub fails : Fails position
  pub first : (earlier : ℕ) → earlier < position → Fails earlier → ⊥
