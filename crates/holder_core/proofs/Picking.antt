-- Elements that are picked by their places, under sets with the same members.
use Rattle.std.proofs.Common.{◌≡◌, ℕ, suc, ◌≤◌, List, [], ◌∷◌, ◌++◌, length, Bool, true, false, refl, ap, ap₂, ◌∙◌, arith}
use Rattle.std.specs.Prelude.{if◌then◌else◌}
use Rattle.std.specs.List.{AllByRecursion}
use Rattle.b64url_text.specs.Base64url.{IsWord}
use Rattle.claim_tree.specs.Tree.{Text}
use Rattle.holder_core.specs.Present.{picked}

abbrev pub first_if : {X : Type 0} → Bool → X → List X → List X
first_if b x xs = if b then x ∷ xs else xs

pub picked_same : {X : Type 0} (s t : ℕ → Bool) → ((i : ℕ) → s i ≡ t i) → (xs : List X) → picked s xs ≡ picked t xs
picked_same s t same [] = refl
picked_same {X} s t same (x ∷ xs) = ap₂ (λ (b : Bool) (ys : List X). first_if b x ys) (same 0) (picked_same (λ k. s (suc k)) (λ k. t (suc k)) (λ k. same (suc k)) xs)

-- one more behind
abbrev last_if : {X : Type 0} → Bool → X → List X → List X
last_if b x xs = if b then xs ++ x ∷ [] else xs

pub picked_more : {X : Type 0} (s : ℕ → Bool) (xs : List X) (x : X) → picked s (xs ++ x ∷ []) ≡ (if s (length xs) then picked s xs ++ x ∷ [] else picked s xs)
picked_more s [] x = go (s 0)
  where
    go : (b : Bool) → first_if b x [] ≡ last_if b x []
    go true = refl
    go false = refl
picked_more {X} s (y ∷ xs) x = ap (first_if (s 0) y) (picked_more (λ k. s (suc k)) xs x) ∙ go (s 0) (s (suc (length xs))) (picked (λ k. s (suc k)) xs)
  where
    go : (b c : Bool) (ys : List X) → first_if b y (last_if c x ys) ≡ last_if c x (first_if b y ys)
    go true true ys = refl
    go true false ys = refl
    go false true ys = refl
    go false false ys = refl

pub picked_words : (s : ℕ → Bool) (xs : List Text) → AllByRecursion IsWord xs → AllByRecursion IsWord (picked s xs)
picked_words s [] all = tt
picked_words s (x ∷ xs) all = go (s 0) (picked_words (λ k. s (suc k)) xs all.1)
  where
    go : (b : Bool) → AllByRecursion IsWord (picked (λ k. s (suc k)) xs) → AllByRecursion IsWord (first_if b x (picked (λ k. s (suc k)) xs))
    go true ih = (all.0, ih)
    go false ih = ih

pub picked_in : {X : Type 0} (s : ℕ → Bool) (xs : List X) (x : X) → s (length xs) ≡ true → picked s (xs ++ x ∷ []) ≡ picked s xs ++ x ∷ []
picked_in s xs x is = picked_more s xs x ∙ ap (λ (b : Bool). last_if b x (picked s xs)) is

pub picked_out : {X : Type 0} (s : ℕ → Bool) (xs : List X) (x : X) → s (length xs) ≡ false → picked s (xs ++ x ∷ []) ≡ picked s xs
picked_out s xs x is = picked_more s xs x ∙ ap (λ (b : Bool). last_if b x (picked s xs)) is

-- a set that has all of another picks no fewer
pub picked_fewer : {X : Type 0} (s t : ℕ → Bool) → ((i : ℕ) → s i ≡ true → t i ≡ true) → (xs : List X) → length (picked s xs) ≤ length (picked t xs)
picked_fewer s t all [] = omega arith
picked_fewer {X} s t all (x ∷ xs) = go (s 0) (t 0) (all 0) (picked_fewer (λ k. s (suc k)) (λ k. t (suc k)) (λ i h. all (suc i) h) xs)
  where
    go : (b c : Bool) → (b ≡ true → c ≡ true) → length (picked (λ k. s (suc k)) xs) ≤ length (picked (λ k. t (suc k)) xs)
        → length (first_if b x (picked (λ k. s (suc k)) xs)) ≤ length (first_if c x (picked (λ k. t (suc k)) xs))
    go true true h less = omega (arith, less)
    go true false h less = absurd (cc (h refl))
    go false true h less = omega (arith, less)
    go false false h less = less
