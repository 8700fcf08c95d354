use Rattle.std.proofs.Common.{arith}
use Rattle.claim_tree.proofs.PathSteps.{step_bounds, ends_at_boundary, step_at}
use Rattle.claim_tree.proofs.path.step_at.Goals as goal

pub range-requires-clause-start_le_end : goal.range-requires-clause-start_le_end
range-requires-clause-start_le_end c = rw (c.start_at.ensures) (step_bounds 0 c.args.ends.now c.args.text.now c.args.i c.requires.within c.requires.ends).1

pub range-requires-clause-start_boundary : goal.range-requires-clause-start_boundary
range-requires-clause-start_boundary c = λ _. rw (c.start_at.ensures) (step_bounds 0 c.args.ends.now c.args.text.now c.args.i c.requires.within c.requires.ends).0

pub range-requires-clause-end_boundary : goal.range-requires-clause-end_boundary
range-requires-clause-end_boundary c = ends_at_boundary c.args.ends.now c.args.text.now c.args.i c.requires.within c.requires.ends

pub returns : goal.returns
returns c = rw (c.range.ensures.value, c.start_at.ensures) (step_at 0 c.args.ends.now c.args.text.now c.args.i c.requires.within)

pub overflow_add-start_at : goal.overflow_add-start_at
overflow_add-start_at c =
    let rises = (step_bounds 0 c.args.ends.now c.args.text.now c.args.i c.requires.within c.requires.ends).1 in
    let fits = c.type_inv.ends c.args.i in
    rw (c.start_at.ensures) (omega (arith, rises, fits))
