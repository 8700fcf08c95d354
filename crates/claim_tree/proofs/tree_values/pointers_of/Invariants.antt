use Rattle.std.proofs.Common.{take}
use Rattle.claim_tree.specs.ListViews.{elements_of}
use Rattle.claim_tree.specs.TreeValues.{EachSays, IsPointer}
use Rattle.claim_tree.proofs.tree_values.pointers_of.Given as goal

abbrev pub invariant-loop-tree : goal.invariant-loop-tree
invariant-loop-tree l = EachSays IsPointer (elements_of (take l.tree-index l.trees)) l.paths
