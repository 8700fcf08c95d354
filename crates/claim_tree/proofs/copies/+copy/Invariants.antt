use Rattle.std.proofs.Common.{◌≡◌, take}
use Rattle.claim_tree.specs.ListViews.{elements_of, members_of}
use Rattle.claim_tree.proofs.copies.+copy.Given as goal

abbrev pub invariant-copy_elements-loop-tree : goal.invariant-copy_elements-loop-tree
invariant-copy_elements-loop-tree l = l.copies ≡ elements_of (take l.tree-index l.tree-items)

abbrev pub invariant-copy_members-loop-name : goal.invariant-copy_members-loop-name
invariant-copy_members-loop-name l = l.copies ≡ members_of (take l.name-index l.name-items)
