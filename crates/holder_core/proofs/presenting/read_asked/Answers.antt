use Rattle.std.proofs.Common.{sym, ap, subst}
use Rattle.refusals.specs.Lowest.{IsLowest}
use Rattle.verifier_core.specs.Check.{OnFault}
use Rattle.verifier_core.specs.Verdict.{Rules, TokenFails}
use Rattle.holder_core.specs.Asked.{Asked}
use Rattle.holder_core.specs.PresentCalls.{IsUnchecked}
use Rattle.holder_core.proofs.Steps.{unchecked_told}
use Rattle.holder_core.proofs.presenting.read_asked.Goals as goal

pub returns-in-Err-clause-refused : goal.returns-in-Err-clause-refused
returns-in-Err-clause-refused c =
    let token = c.args.token.now in
    let told = subst (λ (r : Rules). OnFault c.in-Err.error (IsLowest (TokenFails token r))) (ap (λ (a : Asked). a.rules) c.asked.view_is) c.in-Err.ensures.refused in
    subst (IsUnchecked token c.args.asked.now.rules) (sym c.from.ensures) (unchecked_told token c.args.asked.now.rules c.in-Err.error told)
