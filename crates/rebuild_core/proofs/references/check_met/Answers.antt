-- Conditions 16 and 17, by numbers.
use Rattle.std.proofs.Common.{suc, length, sym, ap, ◌∙◌}
use Rattle.rebuild_core.proofs.Transfer.{ends_ascend, many_ends}
use Rattle.rebuild_core.proofs.Judged.{judged, referenced_once}
use Rattle.rebuild_core.proofs.references.check_met.Goals as goal

pub reach-requires-clause-ascends : goal.reach-requires-clause-ascends
reach-requires-clause-ascends c = ends_ascend _ _ c.invariant.ensures.ordered c.requires.object _ _ _ c.requires.flat

pub reach-requires-clause-count : goal.reach-requires-clause-count
reach-requires-clause-count c = many_ends _ _ c.invariant.ensures.ordered c.requires.object _ _ _ c.requires.flat ∙ ap suc (sym c.len.ensures)

pub first_met_twice-requires-clause-ascends : goal.first_met_twice-requires-clause-ascends
first_met_twice-requires-clause-ascends c = ends_ascend _ _ c.invariant.ensures.ordered c.requires.object _ _ _ c.requires.flat

pub first_met_twice-requires-clause-flags : goal.first_met_twice-requires-clause-flags
first_met_twice-requires-clause-flags c =
    many_ends _ _ c.invariant.ensures.ordered c.requires.object _ _ _ c.requires.flat ∙ ap suc (sym (ap length c.as_slice-flags.ensures.value ∙ (c.in-Ok.ensures.length ∙ c.len.ensures)))

pub first_met_twice-requires-clause-below : goal.first_met_twice-requires-clause-below
first_met_twice-requires-clause-below c =
    let j = judged _ _ c.invariant.ensures.ordered c.requires.object _ _ _ c.requires.flat _ c.len.ensures _ _ c.in-Ok.ensures.length c.in-Ok.ensures.exact c.as_slice-flags.ensures.value in
    rw c.len-2.ensures.len j.below

pub returns-in-Ok-Some-clause-refused : goal.returns-in-Ok-Some-clause-refused
returns-in-Ok-Some-clause-refused c =
    let j = judged _ _ c.invariant.ensures.ordered c.requires.object _ _ _ c.requires.flat _ c.len.ensures _ _ c.in-Ok.ensures.length c.in-Ok.ensures.exact c.as_slice-flags.ensures.value in
    (c.requires.repeated, c.requires.misused, j.repeated c.in-Ok-Some.place (rw c.in-Ok-Some.field-0-is at c.in-Ok-Some.ensures))

pub returns-in-Some-clause-refused : goal.returns-in-Some-clause-refused
returns-in-Some-clause-refused c =
    let j = judged _ _ c.invariant.ensures.ordered c.requires.object _ _ _ c.requires.flat _ c.len.ensures _ _ c.in-Ok.ensures.length c.in-Ok.ensures.exact c.as_slice-flags.ensures.value in
    (c.requires.repeated, c.requires.misused, j.apart (rw c.in-Ok-None.field-0-is at c.in-Ok-None.ensures), j.unreferenced c.in-Some.i c.in-Some.ensures)

pub returns-clause-referenced : goal.returns-clause-referenced
returns-clause-referenced c =
    let j = judged _ _ c.invariant.ensures.ordered c.requires.object _ _ _ c.requires.flat _ c.len.ensures _ _ c.in-Ok.ensures.length c.in-Ok.ensures.exact c.as_slice-flags.ensures.value in
    referenced_once _ _ _ _ _ j c.requires.repeated c.requires.misused (rw c.in-Ok-None.field-0-is at c.in-Ok-None.ensures) c.in_default.ensures
