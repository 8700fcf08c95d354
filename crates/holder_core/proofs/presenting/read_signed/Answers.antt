use Rattle.std.proofs.Common.{IfErr, subst}
use Rattle.refusals.specs.Lowest.{IsLowest}
use Rattle.verifier_core.specs.Verdict.{Rules, TokenFails}
use Rattle.verifier_core.specs.Check.{OnFault}
use Rattle.holder_core.proofs.presenting.read_signed.Goals as goal

pub returns-clause-refused : goal.returns-clause-refused
returns-clause-refused c = subst (λ (r : Rules). IfErr c.read.result (λ e. OnFault e (IsLowest (TokenFails c.args.token.now r)))) c.of_keys.ensures c.read.ensures.refused
