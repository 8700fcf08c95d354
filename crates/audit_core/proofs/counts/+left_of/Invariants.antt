use Rattle.std.proofs.Common.{◌≡◌, ◌+◌, drop}
use Rattle.claim_tree.specs.View.{tree_of}
use Rattle.claim_tree.specs.ListViews.{elements_of, members_of}
use Rattle.audit_core.specs.Counts.{count_in, elements_count, members_count}
use Rattle.audit_core.proofs.counts.+left_of.Given as goal

abbrev pub invariant-loop-tree : goal.invariant-loop-tree
invariant-loop-tree l = elements_count (elements_of (drop l.tree-index l.tree-items)) + l.fn.left ≡ l.left + count_in (tree_of l.fn.tree)

abbrev pub invariant-loop-name : goal.invariant-loop-name
invariant-loop-name l = members_count (members_of (drop l.name-index l.name-items)) + l.fn.left ≡ l.left + count_in (tree_of l.fn.tree)
