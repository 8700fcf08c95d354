-- Not needed to believe the program's promises: lists that begin with a text,
-- read without it and written without making them.
use Rattle.std.specs.Prelude.{Option, Some, None}
use Rattle.claim_tree.specs.Tree as spec
use Rattle.claim_tree.specs.Tree.{Text, text, leaf, array, Elements, no_elements, element}
use Rattle.claim_tree.specs.View.{tree_of}
use Rattle.claim_tree.specs.JsonText.{Reads}
use Rattle.claim_tree.specs.declared.tree.Tree.{Tree}
use Rattle.claim_tree.specs.declared.tail.ListTail.{ListTail}
use Rattle.claim_tree.specs.declared.tail.TailOrTree.{TailOrTree}

abbrev third_element : Option Tree → Elements
third_element None = no_elements
third_element (Some t) = element (tree_of t) no_elements

-- the elements behind the first
abbrev pub tail_elements : ListTail → Elements
tail_elements tail = element (tree_of tail.second) (third_element tail.third)

-- what is kept of what a text reads to
abbrev pub kept_tree : TailOrTree → spec.Tree
kept_tree (TailOrTree.Tail tail) = array (tail_elements tail)
kept_tree (TailOrTree.Tree t) = tree_of t

-- the text reads to this, or to the list of some text and these
abbrev pub ReadsTail : Text → TailOrTree → Type 0
ReadsTail bytes (TailOrTree.Tail tail) =
    (first : Text) × Reads bytes (array (element (leaf (text first)) (tail_elements tail)))
ReadsTail bytes (TailOrTree.Tree t) = Reads bytes (tree_of t)

-- the elements of a list: a text, another where there is one, and a tree
abbrev pub short_list : Text → Option Text → spec.Tree → Elements
short_list first None last = element (leaf (text first)) (element last no_elements)
short_list first (Some second) last =
    element (leaf (text first)) (element (leaf (text second)) (element last no_elements))
