use Rattle.std.proofs.Common.{◌≤◌, length, drop}
use Rattle.claim_tree.specs.Tree.{MembersOrdered}
use Rattle.marked_tree.specs.Marked.{strip_members}
use Rattle.marked_tree.specs.View.{marked_members_of}
use Rattle.marked_tree.proofs.marked.are_ascending.Given as goal

abbrev pub decreases-loop-from : goal.decreases-loop-from
decreases-loop-from l = l.from

-- those from here on ascend
abbrev pub invariant-loop-from : goal.invariant-loop-from
invariant-loop-from l = (l.from ≤ length l.members) × MembersOrdered (strip_members (marked_members_of (drop l.from l.members)))
