use Rattle.holder_core.proofs.TwoSteps as steps
use Rattle.holder_core.proofs.laws.same_in_two_steps.Goals as goal

pub returns : goal.returns
returns g c rule = steps.same_in_two_steps g.F.Fn rule
