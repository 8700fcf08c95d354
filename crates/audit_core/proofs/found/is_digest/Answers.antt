use Rattle.std.proofs.Common.{◌≡◌, subst, sym, ap, length, take, ◌∙◌, eq-eqb}
use Rattle.std.proofs.lemmas.List.{length-take-le}
use Rattle.std.proofs.lemmas.Bool.{true≢false}
use Rattle.std.proofs.lemmas.Bool.Decides.{Decides-eqb}
use Rattle.b64url_text.specs.Base64url.{Decodes}
use Rattle.b64url_text.proofs.Codes.{one_code}
use Rattle.audit_core.proofs.Writtens.{short_digest}
use Rattle.audit_core.proofs.found.is_digest.Goals as goal

pub returns-then-digest-gt86 : goal.returns-then-digest-gt86
returns-then-digest-gt86 c = ((λ e. absurd (true≢false (sym e))), (λ s. absurd (short_digest c.args.hash c.args.digest.now c.if-digest-gt86.true s)))

pub returns-in-Ok : goal.returns-in-Ok
returns-in-Ok c =
    let bytes = take c.in-Ok.count c.decode_into.new.room in
    let read = subst (λ text. Decodes text bytes) c.as_bytes.ensures.value c.in-Ok.ensures.ok in
    let many : length bytes ≡ c.in-Ok.count = length-take-le c.in-Ok.count c.decode_into.new.room c.in-Ok.ensures.within in (
      (λ e. record { bytes = bytes; decodes = read; long = many ∙ (Decides-eqb c.in-Ok.count c.hash_length.result).0 e ∙ c.hash_length.ensures }),
      (λ s. eq-eqb c.in-Ok.count c.hash_length.result (sym many ∙ ap length (one_code _ bytes s.bytes read s.decodes) ∙ s.long ∙ sym c.hash_length.ensures)),
    )
