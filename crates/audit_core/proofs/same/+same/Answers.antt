use Rattle.std.proofs.Common.{sym, ap₂, ◌∙◌}
use Rattle.audit_core.specs.SameMarked.{same_elements, same_members}
use Rattle.audit_core.proofs.Walks.{lists_end, maps_end}
use Rattle.audit_core.proofs.same.+same.Goals as goal

pub is_same_list-returns-then-elements-others : goal.is_same_list-returns-then-elements-others
is_same_list-returns-then-elements-others t c =
    sym (sym (ap₂ same_elements c.elements-elements.ensures.value c.elements-others.ensures.value) ∙ lists_end c.elements-elements.result.now c.elements-others.result.now c.if-elements-others.true)

pub is_same_map-returns-then-members-others : goal.is_same_map-returns-then-members-others
is_same_map-returns-then-members-others t c =
    sym (sym (ap₂ same_members c.members-members.ensures.value c.members-others.ensures.value) ∙ maps_end c.members-members.result.now c.members-others.result.now c.if-members-others.true)
