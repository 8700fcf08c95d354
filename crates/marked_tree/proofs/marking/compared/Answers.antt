use Rattle.std.proofs.Common.{◌∙◌}
use Rattle.marked_tree.proofs.PathOrder.{step_there, no_step}
use Rattle.marked_tree.proofs.marking.compared.Goals as goal

pub returns-in-Some : goal.returns-in-Some
returns-in-Some c = c.compare_steps.ensures ∙ step_there c.args.depth c.args.path.now c.in-Some.found.now c.args.step.now c.in-Some.ensures

pub returns-in-None : goal.returns-in-None
returns-in-None c = no_step c.args.depth c.args.path.now c.args.step.now c.in-None.ensures
