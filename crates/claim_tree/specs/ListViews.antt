-- Not needed to believe the program's promises: the values of lists of trees.
use Rattle.std.specs.Prelude.{List, [], ◌∷◌}
use Rattle.claim_tree.specs.Tree.{Text, Elements, no_elements, element, Members, no_members, member}
use Rattle.claim_tree.specs.declared.tree.Tree.{Tree}
use Rattle.claim_tree.specs.View.{tree_of}

abbrev pub elements_of : List Tree → Elements
elements_of [] = no_elements
elements_of (t ∷ ts) = element (tree_of t) (elements_of ts)

abbrev pub members_of : List (Text × Tree) → Members
members_of [] = no_members
members_of (m ∷ ms) = member m.0 (tree_of m.1) (members_of ms)
