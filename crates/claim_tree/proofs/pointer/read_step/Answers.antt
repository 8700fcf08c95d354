use Rattle.std.proofs.Common.{arith, rules, refl, sym, ◌∙◌, ap, string_bytes}
use Rattle.std.specs.Prelude.{None, Some}
use Rattle.std.proofs.lemmas.Str.Pattern.{split_parts}
use Rattle.claim_tree.specs.Path.{escaped}
use Rattle.claim_tree.proofs.PointerTildes.{lone_tilde}
use Rattle.claim_tree.proofs.PointerEscapes.{escape_read, rest_read}
use Rattle.claim_tree.proofs.pointer.read_step.Goals as goal

pub loop-plain-init : goal.loop-plain-init
loop-plain-init c = (c.utf8.written, record { no_slash = c.requires; spelling = rw c.in_ok-step.ensures.bytes refl })

pub returns-in_err-sign-clause-syntax : goal.returns-in_err-sign-clause-syntax
returns-in_err-sign-clause-syntax c syntax =
    let cut = split_parts 126 c.loop-plain.rest.now (Some (c.in-Some.plain, c.in-Some.escape)) c.in-Some.ensures.cases (omega arith) in
    let alone = rw c.in_err-sign.ensures.ok_part at c.read_escape.ensures.none in
    lone_tilde c.args.written.now (escaped (string_bytes c.loop-plain.step)) c.loop-plain.rest.now c.in-Some.plain.now c.in-Some.escape.now c.loop-plain.invariant.1.spelling cut.0 alone

pub loop-plain-preserved : goal.loop-plain-preserved
loop-plain-preserved c =
    let cut = split_parts 126 c.loop-plain.rest.now (Some (c.in-Some.plain, c.in-Some.escape)) c.in-Some.ensures.cases (omega arith) in
    let read = rw c.in_ok-sign.ensures.ok_part at c.read_escape.ensures.found in
    let far = escape_read c.args.written.now (string_bytes c.loop-plain.step) c.loop-plain.rest.now c.in-Some.plain.now c.in-Some.escape.now c.in_ok-sign.sign.now c.in_ok-sign.more.now
    c.loop-plain.invariant.1 cut.0 cut.1 read in
    (search rules, rw (c.in_ok-push_str-2.ensures.bytes, c.in_ok-push_str.ensures.bytes) far)

pub returns-clause-ok : goal.returns-clause-ok
returns-clause-ok c =
    let none = split_parts 126 c.loop-plain.rest.now None c.in_default.ensures.cases (omega arith) in
    rest_read c.args.written.now (string_bytes c.loop-plain.step) c.loop-plain.rest.now c.loop-plain.invariant.1 none ∙ ap escaped (sym (c.from_string.ensures ∙ c.in_ok-push_str-3.ensures.bytes))
