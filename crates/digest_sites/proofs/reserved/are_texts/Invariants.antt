use Rattle.std.proofs.Common.{◌≡◌, drop, is_some}
use Rattle.claim_tree.specs.ListViews.{elements_of}
use Rattle.digest_sites.specs.Reserved.{texts_of}
use Rattle.digest_sites.proofs.reserved.are_texts.Given as goal

abbrev pub invariant-loop-tree : goal.invariant-loop-tree
invariant-loop-tree l = is_some (texts_of (elements_of (drop l.tree-index l.tree-items))) ≡ is_some (texts_of (elements_of l.tree-items))
