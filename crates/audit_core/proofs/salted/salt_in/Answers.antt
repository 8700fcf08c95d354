use Rattle.std.proofs.Common.{◌≡◌, length, take, inl, inr, ap, subst, ◌∙◌, arith}
use Rattle.b64url_text.specs.Base64url.{Decodes}
use Rattle.b64url_text.proofs.Texts.{b64_utf8}
use Rattle.audit_core.proofs.Salts.{bytes_length, salt_within}
use Rattle.audit_core.proofs.salted.salt_in.Goals as goal

pub returns-in_err-get-clause-none : goal.returns-in_err-get-clause-none
returns-in_err-get-clause-none c =
    rw c.from_residual.ensures (λ s. let many = salt_within c.args.json.now s in elim c.in_err-get.ensures.lookup.0 [ inl a ↦ absurd (omega (arith, a)) | inr b ↦ absurd (omega (arith, b, many)) ])

pub returns-in_default-clause-none : goal.returns-in_default-clause-none
returns-in_default-clause-none c = λ s.
    let none = c.in_default.ensures.cases.0 in
    none (rw c.in_ok-get.ensures.lookup.0.2 (rw s.decodes.spelling (b64_utf8 s.bytes)))

pub returns-in-Ok-decode_into-clause-salt : goal.returns-in-Ok-decode_into-clause-salt
returns-in-Ok-decode_into-clause-salt c =
    let salt = c.in-Ok.salt.now in
    let bytes = take c.in-Ok-decode_into.field-0 c.decode_into.new.room in
    let read = subst (λ text. Decodes text bytes) c.as_bytes.ensures.value c.in-Ok-decode_into.ensures.ok in
    let many : length salt ≡ 22 = ap length c.in-Ok.ensures.cases.0 ∙ omega (arith, c.in_ok-get.ensures.lookup.0.3) in
    record { bytes = bytes; decodes = read; long = bytes_length salt bytes read many }
