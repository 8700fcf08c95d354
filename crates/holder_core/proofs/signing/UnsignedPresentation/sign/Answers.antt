use Rattle.std.proofs.Common.{sym, subst}
use Rattle.std.proofs.lemmas.Result.{IfOk-weaker, IfErr-weaker}
use Rattle.holder_core.specs.PresentSteps.{IsUnsent}
use Rattle.holder_core.proofs.SignedLater.{sent_words}
use Rattle.holder_core.proofs.signing.UnsignedPresentation.sign.Goals as goal

pub returns-clause-words : goal.returns-clause-words
returns-clause-words g c words =
    let by = c.in-Ok.ensures.signed in
    IfOk-weaker c.parts_with_binding.result _ _
    (λ answer h. sent_words c.args.self by.signature answer words by.some (record { signed = h.0; disclosures = h.1; token = c.in-Ok.token; binding = h.2; with_it = by.with_it }))
    c.parts_with_binding.ensures.bound

pub returns-clause-refused : goal.returns-clause-refused
returns-clause-refused g c =
    let by = c.in-Ok.ensures.signed in
    IfErr-weaker c.parts_with_binding.result _ _
    (λ e h. subst (IsUnsent c.args.self (g.S.Signatures.good c.args.signer.now)) (sym h.0) (
      h.1,
      record {
        signature = by.signature;
        some = by.some;
        with_it = record { signed = h.2.0; disclosures = h.2.1; token = c.in-Ok.token; binding = h.2.2; with_it = by.with_it };
        signed = by.signed;
      },
      h.3,
    ))
    c.parts_with_binding.ensures.long
