use Rattle.std.proofs.lemmas.Result.{IfOk-weaker}
use Rattle.holder_core.proofs.SignedLater.{sent_words}
use Rattle.holder_core.proofs.signing.UnsignedPresentation.signed.Goals as goal

pub returns-clause-words : goal.returns-clause-words
returns-clause-words c words =
    IfOk-weaker c.parts_with_binding.result _ _
    (λ answer h. sent_words c.args.self c.args.signature.now answer words c.in-Ok.ensures.some (record { signed = h.0; disclosures = h.1; token = c.in-Ok.token; binding = h.2; with_it = c.in-Ok.ensures.signed }))
    c.parts_with_binding.ensures.bound
