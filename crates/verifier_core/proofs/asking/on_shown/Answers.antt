use Rattle.std.proofs.Common.{inl, inr, sym, ap, subst, ◌∙◌}
use Rattle.std.specs.Option.{option_map}
use Rattle.claim_tree.specs.Tree.{Members}
use Rattle.compact_form.specs.Views.{jwt_of}
use Rattle.json_form.specs.declared.token.Token.{Token}
use Rattle.jws_part.specs.Header.{IsHeaderUnreadable, IsHeaderCritical}
use Rattle.verifier_core.proofs.Asked.{signed_text, not_unsaid, said_good}
use Rattle.verifier_core.proofs.HolderAsked.{shown_needed, shown_done, binding_sent, binding_read}
use Rattle.verifier_core.proofs.asking.on_shown.Goals as goal

pub refused-requires-clause-needed : goal.refused-requires-clause-needed
refused-requires-clause-needed c =
    let k = c.args.case in
    shown_needed k.text.now k.policy.now k.binding_algs.now k.now k.answers c.args.fault c.requires.lowest c.args.token.now c.requires.token
    (signed_text k.policy.now k.binding_algs.now k.answers c.args.token.now c.requires.signed) c.if-fault-ne30.true

pub refused-requires-clause-done : goal.refused-requires-clause-done
refused-requires-clause-done c =
    let k = c.args.case in
    shown_done k.text.now k.policy.now k.binding_algs.now k.now k.answers c.args.fault c.requires.lowest
    (said_good k.answers (not_unsaid k.policy.now k.binding_algs.now k.answers c.args.token.now c.requires.signed)) c.if-fault-ne30.true

pub unreachable-requires : goal.unreachable-requires
unreachable-requires c =
    let k = c.args.case in
    binding_sent k.text.now k.policy.now k.binding_algs.now k.now k.answers c.args.fault c.requires.lowest c.if-fault-ne30.false c.args.token.now c.requires.token
    (ap (λ (t : Token). t.parts.binding) (sym c.view-view.ensures) ∙ (sym c.binding.ensures ∙ ap (option_map jwt_of) c.in_default.is))

pub question_on-requires : goal.question_on-requires
question_on-requires c =
    let k = c.args.case in
    let sent = ap (λ (t : Token). t.parts.binding) (sym c.view-view.ensures) ∙ (sym c.binding.ensures ∙ ap (option_map jwt_of) c.in-Some.is) in
    let read = binding_read k.text.now k.policy.now k.binding_algs.now k.now k.answers c.args.fault c.requires.lowest c.if-fault-ne30.false c.args.token.now c.requires.token c.requires.opened.0 c.requires.opened.1 (jwt_of c.in-Some.binding) sent in
    record {
      readable = λ unread. read (inl (subst (λ (o : Members). IsHeaderUnreadable c.in-Some.binding.protected.now o) c.new.ensures unread));
      uncritical = λ critical. read (inr (subst (λ (o : Members). IsHeaderCritical c.in-Some.binding.protected.now o) c.new.ensures critical));
    }

pub ask_holder-requires-clause-bad : goal.ask_holder-requires-clause-bad
ask_holder-requires-clause-bad c = record { is_token = c.requires.token; lowest = c.requires.lowest; at = c.if-fault-ne30.false }

pub on_no_binding_signature-requires-clause-bad : goal.on_no_binding_signature-requires-clause-bad
on_no_binding_signature-requires-clause-bad c = record { is_token = c.requires.token; lowest = c.requires.lowest; at = c.if-fault-ne30.false }
