use Rattle.std.proofs.Common.{rules}
use Rattle.std.proofs.lemmas.Result.{IfOk-weaker}
use Rattle.base_tests.proofs.selection_tests.judge_steps.Goals as goal

pub returns-clause-allowed : goal.returns-clause-allowed
returns-clause-allowed c = IfOk-weaker c.allow.result _ _ (λ x all i at kept stands. let said = all i at kept stands in search rules) c.allow.ensures.allowed
