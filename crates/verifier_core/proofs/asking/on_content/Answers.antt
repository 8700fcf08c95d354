use Rattle.std.proofs.Common.{◌≡◌, inl, inr, ap, subst, ◌∙◌}
use Rattle.claim_tree.specs.Tree.{Members}
use Rattle.compact_form.specs.Views.{jwt_of}
use Rattle.compact_form.specs.declared.parts.JwtParts.{JwtParts}
use Rattle.json_form.specs.declared.token.Token.{Token}
use Rattle.jws_part.specs.Header.{IsHeaderUnreadable, IsHeaderCritical}
use Rattle.verifier_core.specs.AskingSteps.{demands_in}
use Rattle.verifier_core.proofs.Asked.{content_needed, content_done, header_read}
use Rattle.verifier_core.proofs.asking.on_content.Goals as goal

pub refused-requires-clause-needed : goal.refused-requires-clause-needed
refused-requires-clause-needed c =
    let k = c.args.case in
    content_needed k.text.now k.policy.now k.binding_algs.now k.now k.answers c.args.fault c.requires.lowest c.args.token.now c.requires.token c.requires.early c.if-fault-ne10.true c.requires.unopened

pub refused-requires-clause-done : goal.refused-requires-clause-done
refused-requires-clause-done c =
    let k = c.args.case in
    content_done k.text.now k.policy.now k.binding_algs.now k.now k.answers c.args.fault c.requires.lowest c.args.token.now c.requires.token c.requires.early c.if-fault-ne10.true c.requires.unopened

pub question_on-requires : goal.question_on-requires
question_on-requires c =
    let k = c.args.case in
    let token = c.args.token.now in
    let signed : jwt_of c.signed.result ≡ token.parts.signed = c.signed.ensures ∙ ap (λ (t : Token). t.parts.signed) c.view-view.ensures in
    let outer : c.outer.result.now ≡ token.outer = c.outer.ensures ∙ ap (λ (t : Token). t.outer) c.view-view.ensures in
    let read = header_read k.text.now (demands_in k) k.now c.args.fault c.requires.lowest token c.requires.token c.if-fault-ne10.false in
    record {
      readable = λ unread. read (inl (subst (λ (o : Members). IsHeaderUnreadable token.parts.signed.protected o) outer (subst (λ (s : JwtParts). IsHeaderUnreadable s.protected c.outer.result.now) signed unread)));
      uncritical = λ critical. read (inr (subst (λ (o : Members). IsHeaderCritical token.parts.signed.protected o) outer (subst (λ (s : JwtParts). IsHeaderCritical s.protected c.outer.result.now) signed critical)));
    }

pub ask_issuer-requires-clause-bad : goal.ask_issuer-requires-clause-bad
ask_issuer-requires-clause-bad c = record { is_token = c.requires.token; lowest = c.requires.lowest; at = c.if-fault-ne10.false }

pub on_no_signature-requires-clause-bad : goal.on_no_signature-requires-clause-bad
on_no_signature-requires-clause-bad c = record { is_token = c.requires.token; lowest = c.requires.lowest; at = c.if-fault-ne10.false }
