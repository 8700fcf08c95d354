use Rattle.std.proofs.Common.{List, Option, Err, ◌++◌, string_bytes, ap, sym, ◌∙◌, subst}
use Rattle.sd_outside.specs.Lists.{IsSuchAt, IsLeast}
use Rattle.claim_tree.specs.Tree.{Text, Members}
use Rattle.claim_tree.specs.View.{tree_of}
use Rattle.jws_part.specs.Part.{IsBody, IsNoObject}
use Rattle.jws_part.specs.Header.{IsHeaderUnreadable}
use Rattle.cli_parts.proofs.Stopped.{of_fault, of_step}
use Rattle.verifier_core.specs.Verdict.{IsNoDisclosure}
use Rattle.sdjwt_cli.specs.Show.{IsHead, IsShownPayload, IsShowRefused, header, payload, hash, disclosure}
use Rattle.sdjwt_cli.specs.ShowSteps.{AddsLines, IsUnread}
use Rattle.compact_form.specs.declared.parts.JwtParts.{JwtParts}
use Rattle.sdjwt_cli.specs.Split.{binding_line}
use Rattle.sdjwt_cli.proofs.Shown.{shows}
use Rattle.sdjwt_cli.proofs.show.show_view.Goals as goal

pub returns-in-Err-Unreadable-clause-refuses : goal.returns-in-Err-Unreadable-clause-refuses
returns-in-Err-Unreadable-clause-refuses c =
    let part = ap (λ j. j.protected) c.signed.ensures in
    let unreadable = subst (IsHeaderUnreadable c.args.token.now.parts.signed.protected) c.outer.ensures (subst (λ (p : Text). IsHeaderUnreadable p c.outer.result.now) part (c.in-Err-Unreadable.ensures.unreadable (ap Err c.in-Err-Unreadable.field-0-is))) in
    of_fault (IsShowRefused c.args.file.now) c.fault.result (header c.args.token.now c.requires unreadable c.fault.ensures) c.refused.result c.refused.ensures.line

pub returns-in-Err-Unreadable-read_body_with-clause-refuses :
    goal.returns-in-Err-Unreadable-read_body_with-clause-refuses
returns-in-Err-Unreadable-read_body_with-clause-refuses c =
    let head = subst (λ (o : Members). IsHead c.args.token.now.parts.signed.protected o (tree_of c.in-Ok.head)) c.outer.ensures (subst (λ (p : Text). IsHead p c.outer.result.now (tree_of c.in-Ok.head)) (ap (λ j. j.protected) c.signed.ensures) c.in-Ok.ensures.head) in
    let none = subst IsNoObject (ap (λ j. j.payload) c.signed.ensures) (c.in-Err-Unreadable-read_body_with.ensures.unreadable (ap Err c.in-Err-Unreadable-read_body_with.field-0-is)) in
    of_fault (IsShowRefused c.args.file.now) c.fault-in-Err-Unreadable-read_body_with.result (payload c.args.token.now (tree_of c.in-Ok.head) c.requires head none c.fault-in-Err-Unreadable-read_body_with.ensures)
    c.refused-in-Err-Unreadable-read_body_with.result c.refused-in-Err-Unreadable-read_body_with.ensures.line

pub returns-in_default-clause-refuses :
    goal.returns-in_default-clause-refuses
returns-in_default-clause-refuses c =
    let head = subst (λ (o : Members). IsHead c.args.token.now.parts.signed.protected o (tree_of c.in-Ok.head)) c.outer.ensures (subst (λ (p : Text). IsHead p c.outer.result.now (tree_of c.in-Ok.head)) (ap (λ j. j.protected) c.signed.ensures) c.in-Ok.ensures.head) in
    let body = subst (λ (p : Text). IsBody p (tree_of c.in-Ok-read_body_with.payload)) (ap (λ j. j.payload) c.signed.ensures) c.in-Ok-read_body_with.ensures.ok in
    of_fault (IsShowRefused c.args.file.now) c.fault-in_default.result (hash c.args.token.now (tree_of c.in-Ok.head) (tree_of c.in-Ok-read_body_with.payload) c.requires head body (sym c.in_default.ensures) c.fault-in_default.ensures)
    c.refused-in_default.result c.refused-in_default.ensures.line

pub returns-in-Err-clause-refuses : goal.returns-in-Err-clause-refuses
returns-in-Err-clause-refuses c =
    let head = subst (λ (o : Members). IsHead c.args.token.now.parts.signed.protected o (tree_of c.in-Ok.head)) c.outer.ensures (subst (λ (p : Text). IsHead p c.outer.result.now (tree_of c.in-Ok.head)) (ap (λ j. j.protected) c.signed.ensures) c.in-Ok.ensures.head) in
    let body = subst (λ (p : Text). IsBody p (tree_of c.in-Ok-read_body_with.payload)) (ap (λ j. j.payload) c.signed.ensures) c.in-Ok-read_body_with.ensures.ok in
    let known : IsShownPayload c.args.token.now.parts.signed.payload (tree_of c.in-Ok-read_body_with.payload) c.in-Some.hash = record { body = body; hash_is = sym c.in-Some.ensures } in
    of_step (IsUnread c.disclosures.result) (IsShowRefused c.args.file.now) (λ fault h. disclosure c.args.token.now (tree_of c.in-Ok.head) (tree_of c.in-Ok-read_body_with.payload) c.in-Some.hash c.requires head known h.i (subst (λ (ds : List Text). IsLeast (IsSuchAt IsNoDisclosure ds) h.i) c.disclosures.ensures.value h.first) h.fault_is)
    c.in-Err.stop c.in-Err.ensures.unread

pub returns-clause-shows : goal.returns-clause-shows
returns-clause-shows c =
    let head = subst (λ (o : Members). IsHead c.args.token.now.parts.signed.protected o (tree_of c.in-Ok.head)) c.outer.ensures (subst (λ (p : Text). IsHead p c.outer.result.now (tree_of c.in-Ok.head)) (ap (λ j. j.protected) c.signed.ensures) c.in-Ok.ensures.head) in
    let body = subst (λ (p : Text). IsBody p (tree_of c.in-Ok-read_body_with.payload)) (ap (λ j. j.payload) c.signed.ensures) c.in-Ok-read_body_with.ensures.ok in
    let known : IsShownPayload c.args.token.now.parts.signed.payload (tree_of c.in-Ok-read_body_with.payload) c.in-Some.hash = record { body = body; hash_is = sym c.in-Some.ensures } in
    let start = string_bytes c.in_ok-text.text in
    let more = string_bytes c.push_all_shown-all.new.text in
    shows c.in-Some.hash c.args.file.now c.args.token.now (tree_of c.in-Ok.head) (tree_of c.in-Ok-read_body_with.payload) start more (string_bytes c.push_binding.new.text) c.requires head known c.in_ok-text.ensures
    (subst (λ (ds : List Text). AddsLines c.in-Some.hash ds start more) c.disclosures.ensures.value c.in_default-all.ensures.ok)
    (c.in_ok-push_binding.ensures ∙ ap (λ (b : Option JwtParts). more ++ binding_line b) c.binding.ensures)
