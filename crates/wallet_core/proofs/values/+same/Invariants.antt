use Rattle.marked_tree.proofs.StrippedSame.{SameTo, SameMembersTo}
use Rattle.wallet_core.proofs.values.+same.Given as goal

abbrev pub invariant-are_same-loop-i : goal.invariant-are_same-loop-i
invariant-are_same-loop-i l = SameTo l.i l.element-items l.values

abbrev pub invariant-have_same-loop-i : goal.invariant-have_same-loop-i
invariant-have_same-loop-i l = SameMembersTo l.i l.member-items l.values
