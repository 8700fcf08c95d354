use Rattle.std.proofs.Common.{take}
use Rattle.claim_tree.specs.ListViews.{elements_of}
use Rattle.claim_tree.specs.TreeValues.{EachSays}
use Rattle.issuer_core.specs.OrderFile.{IsDecoy}
use Rattle.issuer_core.proofs.order_file.decoys_of.Given as goal

abbrev pub invariant-loop-tree : goal.invariant-loop-tree
invariant-loop-tree l = EachSays IsDecoy (elements_of (take l.tree-index l.trees)) l.decoys
