use Rattle.std.proofs.Common.{subst, ◌∙◌}
use Rattle.holder_core.specs.Asked.{asked_by}
use Rattle.holder_core.specs.PresentSteps.{IsUnsigned}
use Rattle.holder_core.specs.declared.signing.Unsigned.{Unsigned}
use Rattle.holder_core.proofs.SignedLater.{alone_answer, refused_answer, sent_answered}
use Rattle.holder_core.proofs.presenting.present_token.Goals as goal

pub returns-in-Ok-Alone-clause-answer : goal.returns-in-Ok-Alone-clause-answer
returns-in-Ok-Alone-clause-answer g c =
    alone_answer g.F.Fn c.args.consent.now c.args.token.now c.by_keys-asked.result (asked_by c.args.ask.now) c.by_keys-asked.ensures c.as_str.result.now (g.S.Signer.alg_name_of c.args.signer.now) (c.as_str.ensures.same ∙ c.alg_name-alg.ensures) c.args.now
    (g.S.Signatures.good c.args.signer.now) c.in-Ok-Alone.parts
    (subst (λ (u : Unsigned). IsUnsigned g.F.Fn c.args.consent.now c.args.token.now c.by_keys-asked.result c.as_str.result.now c.args.now u) c.in-Ok-Alone.field-0-is c.in-Ok-Alone.ensures.unsigned)

pub returns-in-Ok-ToSign-clause-answer : goal.returns-in-Ok-ToSign-clause-answer
returns-in-Ok-ToSign-clause-answer g c =
    sent_answered g.F.Fn c.args.consent.now c.args.token.now c.by_keys-asked.result (asked_by c.args.ask.now) c.by_keys-asked.ensures c.as_str.result.now (g.S.Signer.alg_name_of c.args.signer.now) (c.as_str.ensures.same ∙ c.alg_name-alg.ensures) c.args.now
    (g.S.Signatures.good c.args.signer.now) c.in-Ok-ToSign.unsigned
    (subst (λ (u : Unsigned). IsUnsigned g.F.Fn c.args.consent.now c.args.token.now c.by_keys-asked.result c.as_str.result.now c.args.now u) c.in-Ok-ToSign.field-0-is c.in-Ok-ToSign.ensures.unsigned) c.sign.result c.sign.ensures.sent c.sign.ensures.refused

pub returns-clause-answer : goal.returns-clause-answer
returns-clause-answer g c =
    refused_answer g.F.Fn c.args.consent.now c.args.token.now c.by_keys-asked.result (asked_by c.args.ask.now) c.by_keys-asked.ensures c.as_str.result.now (g.S.Signer.alg_name_of c.args.signer.now) (c.as_str.ensures.same ∙ c.alg_name-alg.ensures) c.args.now
    (g.S.Signatures.good c.args.signer.now) c.in-Err-unsigned_parts.error c.in-Err-unsigned_parts.ensures.refused
