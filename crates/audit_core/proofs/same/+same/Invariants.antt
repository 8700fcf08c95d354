use Rattle.std.proofs.Common.{◌≡◌}
use Rattle.audit_core.specs.SameMarked.{same_elements, same_members}
use Rattle.audit_core.proofs.Walks.{same_lists, same_maps}
use Rattle.audit_core.proofs.same.+same.Given as goal

abbrev pub invariant-is_same_list-loop-i : goal.invariant-is_same_list-loop-i
invariant-is_same_list-loop-i l = same_lists l.elements l.others l.i ≡ same_elements l.one l.other

abbrev pub invariant-is_same_map-loop-i : goal.invariant-is_same_map-loop-i
invariant-is_same_map-loop-i l = same_maps l.members l.others l.i ≡ same_members l.one l.other
