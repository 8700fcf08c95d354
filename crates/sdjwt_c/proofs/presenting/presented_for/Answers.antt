-- What is presented as it is, or with the signature.
use Rattle.std.proofs.Common.{Some, subst}
use Rattle.holder_core.specs.ToSign.{OnToSign}
use Rattle.holder_core.specs.declared.signing.Presentation.{Presentation}
use Rattle.sdjwt_c.specs.Presenting.{IsUnsignedOf}
use Rattle.sdjwt_c.proofs.Presentings.{refused_for, refused_before, gives_signed, refuses_signed}
use Rattle.sdjwt_c.proofs.presenting.presented_for.Goals as goal

pub returns-in-Ok-ToSign-clause-gives : goal.returns-in-Ok-ToSign-clause-gives
returns-in-Ok-ToSign-clause-gives c =
    let is_unsigned = subst (λ (p : Presentation). OnToSign p (IsUnsignedOf c.args.order c.args.token.now c.args.now (Some c.args.word))) c.in-Ok-ToSign.field-0-is c.in-Ok-ToSign.ensures.to_sign in
    gives_signed c.args.order c.args.token.now c.args.now (Some c.args.word) c.args.signature.now c.in-Ok-ToSign.unsigned is_unsigned c.signed_line.result c.signed_line.ensures.gives

pub returns-in-Ok-ToSign-clause-refuses : goal.returns-in-Ok-ToSign-clause-refuses
returns-in-Ok-ToSign-clause-refuses c =
    let is_unsigned = subst (λ (p : Presentation). OnToSign p (IsUnsignedOf c.args.order c.args.token.now c.args.now (Some c.args.word))) c.in-Ok-ToSign.field-0-is c.in-Ok-ToSign.ensures.to_sign in
    refuses_signed c.args.order c.args.token.now c.args.now (Some c.args.word) c.args.signature.now c.in-Ok-ToSign.unsigned is_unsigned c.signed_line.result c.signed_line.ensures.refuses

pub returns-in-Err-clause-refuses : goal.returns-in-Err-clause-refuses
returns-in-Err-clause-refuses c =
    let said = c.args.order in let token = c.args.token.now in let now = c.args.now in let word = Some c.args.word in
    refused_before said token now word c.args.signature.now c.refused.result
    (refused_for said token now word c.in-Err.error c.in-Err.ensures.refused c.in-Err.ensures.no_signer c.in-Err.ensures.said_all c.refused.result c.refused.ensures.cause c.refused.ensures.line)
