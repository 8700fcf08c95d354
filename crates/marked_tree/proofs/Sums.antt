-- Sums over lists, by recursion.
use Rattle.std.proofs.Common.{◌≡◌, ℕ, ◌+◌, List, [], ◌∷◌, ◌++◌, map, refl, ap, arith}

abbrev pub sum_of : {X : Type 0} → (X → ℕ) → List X → ℕ
sum_of f [] = 0
sum_of f (x ∷ xs) = f x + sum_of f xs

pub sum_of-append : {X : Type 0} (f : X → ℕ) (xs ys : List X) → sum_of f (xs ++ ys) ≡ sum_of f xs + sum_of f ys
sum_of-append f [] ys = omega arith
sum_of-append f (x ∷ xs) ys = omega (arith, sum_of-append f xs ys)

pub sum_of-map : {X Y : Type 0} (f : Y → ℕ) (h : X → Y) (xs : List X) → sum_of f (map h xs) ≡ sum_of (λ x. f (h x)) xs
sum_of-map f h [] = refl
sum_of-map f h (x ∷ xs) = ap (λ n. f (h x) + n) (sum_of-map f h xs)
