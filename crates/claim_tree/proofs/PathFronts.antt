-- The way to a place goes by each front of its path.
use Rattle.std.proofs.Common.{◌≡◌, List, [], ◌∷◌, length, drop, take, true, bytes_eq, refl}
use Rattle.std.specs.Prelude.{Option, None, Some, option_and_then}
use Rattle.std.specs.Cmp.Lexicographic.{pointwise}
use Rattle.std.proofs.lemmas.Bool.{and_parts}
use Rattle.claim_tree.specs.Tree.{Text, Tree}
use Rattle.claim_tree.specs.Path.{is_front, stepped, tree_at}
use Rattle.sd_outside.proofs.Lists.{bytes_same}

through : (o : Option Tree) (f p r : List Text) → ((u : Tree) → tree_at u p ≡ option_and_then (λ v. tree_at v r) (tree_at u f))
    → option_and_then (λ u. tree_at u p) o ≡ option_and_then (λ v. tree_at v r) (option_and_then (λ u. tree_at u f) o)
through None f p r on = refl
through (Some u) f p r on = on u

pub tree_at_front : (t : Tree) (front path : List Text) → is_front front path ≡ true → tree_at t path ≡ option_and_then (λ u. tree_at u (drop (length front) path)) (tree_at t front)
tree_at_front t [] path is = refl
tree_at_front t (k ∷ front) [] is = cc is
tree_at_front t (k ∷ front) (l ∷ path) is =
    let both = and_parts (bytes_eq k l) (pointwise bytes_eq front (take (length front) path)) is in
    rw (← bytes_same k l both.0) (through (stepped t k) front path (drop (length front) path) (λ u. tree_at_front u front path both.1))
