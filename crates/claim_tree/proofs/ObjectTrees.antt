-- Trees of the code whose values are objects.
use Rattle.std.proofs.Common.{◌≡◌, ap}
use Rattle.claim_tree.specs.Tree.{Members, object}
use Rattle.claim_tree.specs.View.{tree_of}
use Rattle.claim_tree.specs.declared.tree.Tree as tree

pub object_inside : (t : tree.Tree) (ms : Members) → tree_of t ≡ object ms → t ≡ tree.Tree.Object ms
object_inside tree.Tree.Null ms e = cc e
object_inside (tree.Tree.Flag b) ms e = cc e
object_inside (tree.Tree.Whole n) ms e = cc e
object_inside (tree.Tree.Text s) ms e = cc e
object_inside (tree.Tree.List es) ms e = cc e
object_inside (tree.Tree.Object other) ms e = let same : other ≡ ms = cc e in ap tree.Tree.Object same
