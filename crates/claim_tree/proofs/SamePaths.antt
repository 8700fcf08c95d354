-- Paths that are equal.
use Rattle.std.proofs.Common.{◌≡◌, List, [], ◌∷◌, true, bytes_eq, refl, ap₂}
use Rattle.std.specs.Cmp.Lexicographic.{pointwise}
use Rattle.std.proofs.lemmas.Bool.{and_parts, and_from}
use Rattle.claim_tree.specs.Tree.{Text}
use Rattle.sd_outside.proofs.Lists.{bytes_same, bytes_refl}

pub path_same : (p q : List Text) → pointwise bytes_eq p q ≡ true → p ≡ q
path_same [] [] h = refl
path_same [] (l ∷ q) h = cc h
path_same (k ∷ p) [] h = cc h
path_same (k ∷ p) (l ∷ q) h =
    let both = and_parts (bytes_eq k l) (pointwise bytes_eq p q) h in
    ap₂ (λ (step : Text) (rest : List Text). step ∷ rest) (bytes_same k l both.0) (path_same p q both.1)

pub path_refl : (p q : List Text) → p ≡ q → pointwise bytes_eq p q ≡ true
path_refl [] [] h = refl
path_refl [] (l ∷ q) h = cc h
path_refl (k ∷ p) [] h = cc h
path_refl (k ∷ p) (l ∷ q) h =
    let first : k ≡ l = cc h in
    let rest : p ≡ q = cc h in
    and_from (bytes_eq k l) (pointwise bytes_eq p q) (bytes_refl k l first) (path_refl p q rest)
