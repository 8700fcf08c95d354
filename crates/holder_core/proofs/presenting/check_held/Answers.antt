use Rattle.std.proofs.Common.{List, None, subst}
use Rattle.std.proofs.lemmas.Result.{err_from_is_err_and}
use Rattle.claim_tree.specs.Tree.{Text}
use Rattle.refusals.specs.Lowest.{IsLowest}
use Rattle.verifier_core.specs.Verdict.{TokenFails, asked}
use Rattle.verifier_core.specs.Check.{OnFault, IsUnopened, IsContent}
use Rattle.holder_core.specs.Asked.{held_rules}
use Rattle.holder_core.proofs.Steps.{unchecked_told, fault_told}
use Rattle.holder_core.proofs.presenting.check_held.Goals as goal

pub returns-in_err-read_signed-clause-refused : goal.returns-in_err-read_signed-clause-refused
returns-in_err-read_signed-clause-refused c =
    let from = err_from_is_err_and c.from_residual-in_err-read_signed.result c.from_residual-in_err-read_signed.ensures.1 in
    let told = subst (λ (names : List Text). OnFault c.in_err-read_signed.field-0.0 (IsLowest (TokenFails c.args.token.now (asked c.args.keys.now names None)))) c.in_ok-names.ensures c.in_err-read_signed.ensures.refused in
    rw (from.1, from.2) (unchecked_told c.args.token.now (held_rules c.args.keys.now) c.in_err-read_signed.field-0.0 told)

pub returns-in_err-read_signed-clause-unopened : goal.returns-in_err-read_signed-clause-unopened
returns-in_err-read_signed-clause-unopened c =
    let from = err_from_is_err_and c.from_residual-in_err-read_signed.result c.from_residual-in_err-read_signed.ensures.1 in
    rw (from.1, from.2) (fault_told c.in_err-read_signed.field-0.0 IsUnopened c.in_err-read_signed.ensures.unopened)

pub returns-clause-content : goal.returns-clause-content
returns-clause-content c = subst (λ (names : List Text). IsContent c.args.token.now (asked c.args.keys.now names None) c.in_ok-read_signed.field-0) c.in_ok-names.ensures c.in_ok-read_signed.ensures.content
