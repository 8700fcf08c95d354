use Rattle.std.proofs.Common.{sym, subst, arith}
use Rattle.verifier_core.specs.Asking.{WasAsked, IsAskedNext}
use Rattle.verifier_core.specs.AskingSteps.{demands_in}
use Rattle.verifier_core.proofs.Asked.{unsigned_unasked, unsigned_next}
use Rattle.verifier_core.proofs.Judgements.{judged_refused, judged_not_asked}
use Rattle.verifier_core.proofs.asking.on_no_signature.Goals as goal

pub returns-in-Nothing : goal.returns-in-Nothing
returns-in-Nothing c =
    let k = c.args.case in
    judged_refused k.text.now (demands_in k) k.now k.answers c.args.fault c.requires.bad.lowest (subst (WasAsked k.text.now (demands_in k) k.now) (sym c.in-Nothing.is) tt)
    (λ next. unsigned_next k.text.now (demands_in k) k.now c.args.fault c.requires.bad.lowest c.args.token.now c.requires.bad.is_token c.requires.none (subst (IsAskedNext k.text.now (demands_in k) k.now) c.in-Nothing.is next))

pub returns-in_default : goal.returns-in_default
returns-in_default c =
    let k = c.args.case in
    judged_not_asked k.text.now (demands_in k) k.now k.answers
    (unsigned_unasked k.text.now (demands_in k) k.now c.args.fault c.requires.bad.lowest c.args.token.now c.requires.bad.is_token k.answers (omega (arith, c.requires.bad.at)) c.requires.none c.in_default.not-Nothing)
