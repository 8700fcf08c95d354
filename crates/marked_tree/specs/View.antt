-- Not needed to believe the program's promises: the marked tree that a value of the code is.
use Rattle.std.specs.Prelude.{ℕ, List, [], ◌∷◌, Option}
use Rattle.claim_tree.specs.Tree.{Text, null, flag, whole, text}
use Rattle.marked_tree.specs.Marked as spec
use Rattle.marked_tree.specs.Marked.{MarkedElements, no_marked_elements, marked_element, MarkedMembers, no_marked_members, marked_member, marked_leaf, marked_array, marked_object}
use Rattle.marked_tree.specs.declared.marked.Marked.{Marked}

abbrev pub marked_of : Marked → spec.Marked
marked_of Marked.Null = marked_leaf null
marked_of (Marked.Flag b) = marked_leaf (flag b)
marked_of (Marked.Whole n) = marked_leaf (whole n)
marked_of (Marked.Text s) = marked_leaf (text s)
marked_of (Marked.List es) = marked_array es
marked_of (Marked.Object ms) = marked_object ms

abbrev pub marked_elements_of : List (Option ℕ × Marked) → MarkedElements
marked_elements_of [] = no_marked_elements
marked_elements_of (e ∷ es) = marked_element e.0 (marked_of e.1) (marked_elements_of es)

abbrev pub marked_members_of : List (Text × Option ℕ × Marked) → MarkedMembers
marked_members_of [] = no_marked_members
marked_members_of (m ∷ ms) = marked_member m.0 m.1 (marked_of m.2) (marked_members_of ms)
