-- What is told of each way in which the token is presented, or not.
use Rattle.std.proofs.Common.{subst}
use Rattle.holder_core.specs.ToSign.{AsksIssuer, OnAsksIssuer}
use Rattle.holder_core.specs.declared.signing.Presentation.{Presentation}
use Rattle.sdjwt_c.proofs.Presentings.{refused_for, refused_step}
use Rattle.sdjwt_c.proofs.presenting.step_for.Goals as goal

pub returns-in_ok-issuer_line-in-Ok-AsksIssuer : goal.returns-in_ok-issuer_line-in-Ok-AsksIssuer
returns-in_ok-issuer_line-in-Ok-AsksIssuer c =
    let asked = subst (λ (p : Presentation). OnAsksIssuer p (AsksIssuer c.args.token.now c.args.order.ask c.args.word)) c.in-Ok-AsksIssuer.field-0-is c.in-Ok-AsksIssuer.ensures.asks in
    record { question = c.in-Ok-AsksIssuer.question; asked = asked; line_is = c.in_ok-issuer_line-in-Ok-AsksIssuer.ensures }

pub returns-in-Err : goal.returns-in-Err
returns-in-Err c =
    let said = c.args.order in let token = c.args.token.now in let now = c.args.now in let word = c.args.word in
    refused_step said token now word c.refused.result
    (refused_for said token now word c.in-Err.error c.in-Err.ensures.refused c.in-Err.ensures.no_signer c.in-Err.ensures.said_all c.refused.result c.refused.ensures.cause c.refused.ensures.line)
    c.refused.ensures.readable c.refused.ensures.read
