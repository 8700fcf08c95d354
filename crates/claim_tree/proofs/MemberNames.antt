-- Names of members.
use Rattle.std.proofs.Common.{◌≡◌, Bool, ◌||◌, List, [], ◌∷◌, refl, ap}
use Rattle.std.specs.List.{list_any}
use Rattle.claim_tree.specs.Tree.{Text, names}
use Rattle.claim_tree.specs.ListViews.{members_of}
use Rattle.claim_tree.specs.declared.tree.Tree as tree

-- a test of the names of a slice
pub any_member : (test : Text → Bool) (ms : List (Text × tree.Tree)) → list_any (λ m. test m.0) ms ≡ list_any test (names (members_of ms))
any_member test [] = refl
any_member test (m ∷ ms) = ap (λ rest. test m.0 || rest) (any_member test ms)
