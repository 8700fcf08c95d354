use Rattle.std.proofs.Common.{◌≡◌, drop}
use Rattle.claim_tree.specs.ListViews.{elements_of, members_of}
use Rattle.digest_sites.specs.Reserved.{elements_misuse, members_misuse}
use Rattle.digest_sites.proofs.misuse.+misuse.Given as goal

abbrev pub invariant-has_misused_element-loop-tree : goal.invariant-has_misused_element-loop-tree
invariant-has_misused_element-loop-tree l = elements_misuse (elements_of (drop l.tree-index l.tree-items)) ≡ elements_misuse (elements_of l.tree-items)

abbrev pub invariant-has_misused_member-loop-name : goal.invariant-has_misused_member-loop-name
invariant-has_misused_member-loop-name l = members_misuse (members_of (drop l.name-index l.name-items)) ≡ members_misuse (members_of l.name-items)
