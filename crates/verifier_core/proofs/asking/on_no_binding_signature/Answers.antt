use Rattle.std.proofs.Common.{subst}
use Rattle.compact_form.specs.Views.{jwt_of}
use Rattle.verifier_core.specs.Asking.{WasAsked, IsAskedNext}
use Rattle.verifier_core.specs.AskingSteps.{demands_in}
use Rattle.verifier_core.proofs.HolderAsked.{unbound}
use Rattle.verifier_core.proofs.Judgements.{judged_refused, judged_not_asked, said_alone, alone_needed}
use Rattle.verifier_core.proofs.asking.on_no_binding_signature.Goals as goal

pub returns-in-Holder : goal.returns-in-Holder
returns-in-Holder c =
    let k = c.args.case in
    judged_not_asked k.text.now (demands_in k) k.now k.answers
    (λ asked. let was = subst (WasAsked k.text.now (demands_in k) k.now) c.in-Holder.is asked in
    unbound k.text.now k.policy.now k.binding_algs.now k.now k.answers c.args.fault c.requires.bad.lowest c.requires.bad.at c.args.token.now c.requires.bad.is_token (jwt_of c.args.binding) c.requires.sent c.requires.none was.0 was.1 was.2)

pub returns-in_default : goal.returns-in_default
returns-in_default c =
    let k = c.args.case in
    let said = said_alone k c.args.fault c.requires.bad.lowest c.requires.bad.at c.args.token.now c.requires.bad.is_token c.requires.signed c.in_default.not-Holder in
    judged_refused k.text.now (demands_in k) k.now k.answers c.args.fault c.requires.bad.lowest
    (alone_needed k c.args.fault c.requires.bad.lowest c.requires.bad.at c.args.token.now c.requires.bad.is_token c.requires.signed c.in_default.not-Holder)
    (λ asked. let next = subst (IsAskedNext k.text.now (demands_in k) k.now) said asked in
    unbound k.text.now k.policy.now k.binding_algs.now k.now k.answers c.args.fault c.requires.bad.lowest c.requires.bad.at c.args.token.now c.requires.bad.is_token (jwt_of c.args.binding) c.requires.sent c.requires.none next.0 next.1 next.2)
