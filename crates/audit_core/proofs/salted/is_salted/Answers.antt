use Rattle.std.proofs.Common.{rules, ◌≡◌, option_map, sym, subst, ◌∙◌}
use Rattle.claim_tree.specs.View.{tree_of}
use Rattle.sd_outside.proofs.Lists.{bytes_refl, bytes_same}
use Rattle.audit_core.specs.AuditSteps.{IsSalt}
use Rattle.audit_core.proofs.Salts.{salt_stands, listed_text, coded, salted_text}
use Rattle.audit_core.proofs.salted.is_salted.Goals as goal

pub returns-in_default-clause-none : goal.returns-in_default-clause-none
returns-in_default-clause-none c text d w =
    let given = c.args.given.now in
    let stands = salt_stands text c.args.json.now given.name (tree_of given.value) d w in
    absurd (c.in_default.ensures.none (subst IsSalt (sym stands) (record { bytes = w.bytes; decodes = w.salt_text; long = w.long })))

pub returns-clause-some : goal.returns-clause-some
returns-clause-some c is text d =
    let given = c.args.given.now in
    let names : option_map (λ s. s.now) c.map-name.result ≡ given.name = search rules in
    let bytes = c.as_bytes.ensures.value ∙ c.as_str.ensures in
    let same = bytes_same c.args.json.now c.as_bytes.result.now (sym c.eq.ensures ∙ is) ∙ bytes in
    salted_text text c.args.json.now c.in_ok-written.written c.in-Some.salt.now _ given.name (tree_of given.value) d c.in-Some.ensures.salt names same c.in_ok-written.ensures.ok (c.in_ok-written.ensures.back c.requires.depth)

pub returns-clause-none : goal.returns-clause-none
returns-clause-none c text d w =
    let given = c.args.given.now in
    let stands = salt_stands text c.args.json.now given.name (tree_of given.value) d w in
    let same : c.in-Some.salt.now ≡ w.salt = c.in-Some.ensures.stands ∙ stands in
    let names : option_map (λ s. s.now) c.map-name.result ≡ given.name = search rules in
    let bytes = c.as_bytes.ensures.value ∙ c.as_str.ensures in
    let written = listed_text c.in_ok-written.written c.in-Some.salt.now w.salt _ given.name (tree_of given.value) c.in_ok-written.ensures.ok same names in
    c.eq.ensures ∙ bytes_refl c.args.json.now c.as_bytes.result.now (coded text c.args.json.now c.in_ok-written.written given.name (tree_of given.value) d w written (rw bytes at c.as_bytes.ensures.utf8) ∙ sym bytes)
