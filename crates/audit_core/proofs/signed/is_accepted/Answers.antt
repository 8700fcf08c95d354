use Rattle.std.proofs.Common.{subst, sym, ◌∙◌}
use Rattle.b64url_text.specs.Base64url.{Decodes}
use Rattle.b64url_text.proofs.Codes.{one_code}
use Rattle.audit_core.proofs.signed.is_accepted.Goals as goal

pub returns-in-Ok : goal.returns-in-Ok
returns-in-Ok g c =
    let good = g.K.Signatures.good c.args.checker.now c.args.signed.protected.now c.args.signed.payload.now in
    let read = subst (λ text. Decodes text c.in-Ok.signature) c.as_bytes.ensures.value c.in-Ok.ensures.ok in (
      (λ e. (c.in-Ok.signature, read, subst good c.bytes.ensures (c.check.ensures.0 e))),
      (λ s. c.check.ensures.1 (subst good (one_code _ s.0 c.in-Ok.signature s.1 read ∙ sym c.bytes.ensures) s.2)),
    )
