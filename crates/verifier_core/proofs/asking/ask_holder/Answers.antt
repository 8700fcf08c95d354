use Rattle.std.proofs.Common.{sym, subst}
use Rattle.compact_form.specs.Views.{jwt_of}
use Rattle.verifier_core.specs.Asking.{WasAsked}
use Rattle.verifier_core.specs.AskingSteps.{demands_in}
use Rattle.verifier_core.proofs.HolderAsked.{asked_bad}
use Rattle.verifier_core.proofs.Judgements.{judged_holder, said_alone, alone_needed}
use Rattle.verifier_core.proofs.asking.ask_holder.Goals as goal

pub refused-requires-clause-needed : goal.refused-requires-clause-needed
refused-requires-clause-needed c needed =
    let k = c.args.case in
    let asked = asked_bad k.text.now k.policy.now k.binding_algs.now k.now k.answers c.args.fault c.requires.bad.lowest c.requires.bad.at c.args.token.now c.requires.bad.is_token (jwt_of c.args.binding) c.requires.sent
    (λ none. none c.args.question.signature c.requires.question.signature) in
    subst (WasAsked k.text.now (demands_in k) k.now) (sym c.in-Holder.is) (c.args.token.now, jwt_of c.args.binding, asked)

pub returns-in_default : goal.returns-in_default
returns-in_default c =
    let k = c.args.case in
    judged_holder k.text.now (demands_in k) k.now k.answers c.args.question c.args.payload
    (record {
      said = said_alone k c.args.fault c.requires.bad.lowest c.requires.bad.at c.args.token.now c.requires.bad.is_token c.requires.signed c.in_default.not-Holder;
      token = c.args.token.now;
      binding = jwt_of c.args.binding;
      asked = asked_bad k.text.now k.policy.now k.binding_algs.now k.now k.answers c.args.fault c.requires.bad.lowest c.requires.bad.at c.args.token.now c.requires.bad.is_token (jwt_of c.args.binding) c.requires.sent
          (λ none. none c.args.question.signature c.requires.question.signature);
      question_is = c.requires.question;
      marked = c.requires.opened.0;
      opens = c.requires.opened.1;
      payload_is = c.requires.opened.2;
    })
    (alone_needed k c.args.fault c.requires.bad.lowest c.requires.bad.at c.args.token.now c.requires.bad.is_token c.requires.signed c.in_default.not-Holder)
