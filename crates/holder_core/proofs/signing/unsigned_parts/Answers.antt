use Rattle.std.proofs.Common.{Option, IfOk, IfErr, ap, subst}
use Rattle.std.proofs.lemmas.Result.{IfOk-weaker, IfErr-weaker}
use Rattle.verifier_core.specs.Check.{IsSigned}
use Rattle.holder_core.specs.Asked.{Asked, BindingAsked}
use Rattle.holder_core.specs.PresentSteps.{IsUnsignedOf, IsLongAlone}
use Rattle.holder_core.proofs.Steps.{signed_result, signed_ok}
use Rattle.holder_core.proofs.SignedLater.{unsigned_ready, long_refused}
use Rattle.holder_core.proofs.signing.unsigned_parts.Goals as goal

pub returns-clause-unsigned : goal.returns-clause-unsigned
returns-clause-unsigned g c =
    let r = c.in-Ok.ready in
    let e = c.in-Ok.ensures in
    let made = subst (λ (b : Option BindingAsked). IfOk c.unsigned_of.result (IsUnsignedOf b c.args.alg.now r.1 c.args.now r.0)) (ap (λ (a : Asked). a.binding) c.asked.view_is) c.unsigned_of.ensures.unsigned in
    IfOk-weaker c.unsigned_of.result _ _ (unsigned_ready g.F.Fn c.args.consent.now c.args.token.now c.args.asked.now c.args.alg.now c.args.now e.ready.0 r.0 e.ready.1 r.1 e.hash) made

pub returns-clause-refused : goal.returns-clause-refused
returns-clause-refused g c =
    let r = c.in-Ok.ready in
    let e = c.in-Ok.ensures in
    let long = subst (λ (b : Option BindingAsked). IfErr c.unsigned_of.result (IsLongAlone b r.0.parts)) (ap (λ (a : Asked). a.binding) c.asked.view_is) c.unsigned_of.ensures.long in
    IfErr-weaker c.unsigned_of.result _ _ (long_refused g.F.Fn c.args.consent.now c.args.token.now c.args.asked.now c.args.alg.now c.args.now e.ready.0 r.0 e.ready.1 r.1 e.hash) long

pub returns-clause-signed : goal.returns-clause-signed
returns-clause-signed g c = signed_ok (IsSigned c.args.token.now.parts.signed c.args.token.now.outer c.args.asked.now.rules) c.unsigned_of.result c.in-Ok.ensures.signed

pub returns-clause-early : goal.returns-clause-early
returns-clause-early g c = signed_result c.args.token.now c.args.asked.now.rules c.in-Ok.ensures.signed c.unsigned_of.result
