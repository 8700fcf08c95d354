use Rattle.std.proofs.Common.{◌≡◌, max, drop}
use Rattle.claim_tree.specs.Tree.{elements_depth, members_depth}
use Rattle.claim_tree.specs.ListViews.{elements_of, members_of}
use Rattle.claim_tree.proofs.depths.+depth.Given as goal

abbrev pub invariant-depth_of_elements-loop-tree : goal.invariant-depth_of_elements-loop-tree
invariant-depth_of_elements-loop-tree l = max l.most (elements_depth (elements_of (drop l.tree-index l.tree-items))) ≡ elements_depth (elements_of l.tree-items)

abbrev pub invariant-depth_of_members-loop-tree : goal.invariant-depth_of_members-loop-tree
invariant-depth_of_members-loop-tree l = max l.most (members_depth (members_of (drop l.tree-index l.tree-items))) ≡ members_depth (members_of l.tree-items)
