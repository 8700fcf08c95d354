use Rattle.std.proofs.Common.{take}
use Rattle.claim_tree.specs.ListViews.{elements_of}
use Rattle.claim_tree.specs.TreeValues.{EachSays}
use Rattle.wallet_core.specs.QueryFile.{IsEqual}
use Rattle.wallet_core.proofs.query_file.equals_of.Given as goal

abbrev pub invariant-loop-tree : goal.invariant-loop-tree
invariant-loop-tree l = EachSays IsEqual (elements_of (take l.tree-index l.trees)) l.equals
