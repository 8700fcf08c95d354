use Rattle.std.proofs.Common.{IfErr, subst}
use Rattle.refusals.specs.Lowest.{IsLowest}
use Rattle.json_form.specs.declared.token.Token.{Token}
use Rattle.verifier_core.specs.Verdict.{Rules, TokenFails}
use Rattle.verifier_core.specs.Check.{OnFault}
use Rattle.verifier_core.proofs.token_checking.check_token.Goals as goal

pub returns-clause-refused : goal.returns-clause-refused
returns-clause-refused c =
    subst (λ (r : Rules). IfErr c.check.result (λ e. OnFault e (IsLowest (TokenFails c.args.token.now r)))) c.of_keys.ensures
    (subst (λ (t : Token). IfErr c.check.result (λ e. OnFault e (IsLowest (TokenFails t c.of_keys.result)))) c.view.ensures c.check.ensures.refused)
