-- The tree that a value of the code is.
use Rattle.claim_tree.specs.Tree as spec
use Rattle.claim_tree.specs.Tree.{Text, leaf, array, object, null, flag, whole, text}
use Rattle.claim_tree.specs.declared.tree.Tree.{Tree}

abbrev pub tree_of : Tree → spec.Tree
tree_of Tree.Null = leaf null
tree_of (Tree.Flag b) = leaf (flag b)
tree_of (Tree.Whole n) = leaf (whole n)
tree_of (Tree.Text s) = leaf (text s)
tree_of (Tree.List es) = array es
tree_of (Tree.Object ms) = object ms
