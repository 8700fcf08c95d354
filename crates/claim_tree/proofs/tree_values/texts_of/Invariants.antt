use Rattle.std.proofs.Common.{◌≡◌, take}
use Rattle.claim_tree.specs.ListViews.{elements_of}
use Rattle.claim_tree.specs.TreeValues.{text_elements}
use Rattle.claim_tree.proofs.tree_values.texts_of.Given as goal

abbrev pub invariant-loop-tree : goal.invariant-loop-tree
invariant-loop-tree l = text_elements l.texts ≡ elements_of (take l.tree-index l.trees)
