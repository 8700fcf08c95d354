-- Two lists side by side: what stands at one place of both.
use Rattle.std.proofs.Common.{◌≡◌, ℕ, zero, suc, List, [], ◌∷◌, ◌++◌, map, length, ◌⊎◌, inl, inr, ⊎_elim, refl, arith}
use Rattle.sd_outside.specs.Lists.{StandsAt, In}

-- at one place stand x and y
abbrev pub Both : {X Y : Type 0} → List X → List Y → X → Y → Type 0
Both [] ys x y = ⊥
Both (a ∷ xs) [] x y = ⊥
Both (a ∷ xs) (b ∷ ys) x y = ((x ≡ a) × (y ≡ b)) ⊎ Both xs ys x y

pub both_at : {X Y : Type 0} (xs : List X) (ys : List Y) (i : ℕ) (x : X) (y : Y) → StandsAt xs i x → StandsAt ys i y → Both xs ys x y
both_at (a ∷ xs) (b ∷ ys) zero x y h k = inl (h, k)
both_at (a ∷ xs) (b ∷ ys) (suc i) x y h k = inr (both_at xs ys i x y h k)
both_at [] ys i x y h k = elim h [ ]
both_at (a ∷ xs) [] i x y h k = elim k [ ]

pub both_left : {X Y : Type 0} (xs : List X) (ys : List Y) (x : X) (y : Y) → Both xs ys x y → In x xs
both_left (a ∷ xs) (b ∷ ys) x y (inl h) = inl h.0
both_left (a ∷ xs) (b ∷ ys) x y (inr h) = inr (both_left xs ys x y h)
both_left (a ∷ xs) [] x y h = elim h [ ]
both_left [] ys x y h = elim h [ ]

pub both_right : {X Y : Type 0} (xs : List X) (ys : List Y) (x : X) (y : Y) → Both xs ys x y → In y ys
both_right (a ∷ xs) (b ∷ ys) x y (inl h) = inl h.1
both_right (a ∷ xs) (b ∷ ys) x y (inr h) = inr (both_right xs ys x y h)
both_right (a ∷ xs) [] x y h = elim h [ ]
both_right [] ys x y h = elim h [ ]

pub both_append : {X Y : Type 0} (xs us : List X) (ys vs : List Y) (x : X) (y : Y) → length xs ≡ length ys → Both (xs ++ us) (ys ++ vs) x y → Both xs ys x y ⊎ Both us vs x y
both_append [] us [] vs x y e h = inr h
both_append (a ∷ xs) us (b ∷ ys) vs x y e (inl h) = inl (inl h)
both_append (a ∷ xs) us (b ∷ ys) vs x y e (inr h) = ⊎_elim (λ l. inl (inr l)) (λ r. inr r) (both_append xs us ys vs x y (omega (arith, e)) h)
both_append [] us (b ∷ ys) vs x y e h = absurd (omega (arith, e))
both_append (a ∷ xs) us [] vs x y e h = absurd (omega (arith, e))

pub both_map : {X Y Z : Type 0} (f : X → Z) (xs : List X) (ys : List Y) (z : Z) (y : Y) → Both (map f xs) ys z y → (x : X) × (z ≡ f x) × Both xs ys x y
both_map f (a ∷ xs) (b ∷ ys) z y (inl h) = (a, h.0, inl (refl, h.1))
both_map f (a ∷ xs) (b ∷ ys) z y (inr h) = let w = both_map f xs ys z y h in (w.0, w.1, inr w.2)
both_map f (a ∷ xs) [] z y h = elim h [ ]
both_map f [] ys z y h = elim h [ ]
