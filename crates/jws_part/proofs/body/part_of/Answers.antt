use Rattle.std.proofs.Common.{◌≡◌, arith, ap, ◌∙◌}
use Rattle.std.proofs.lemmas.Result.{IfOk-weaker}
use Rattle.b64url_text.specs.Base64url.{b64, Decodes}
use Rattle.jws_part.proofs.body.part_of.Goals as goal

pub returns : goal.returns
returns c =
    IfOk-weaker c.encode.result (λ part. part ≡ b64 c.as_bytes.result.now) (λ part. Decodes part c.args.text.now)
    (λ part spelled. record { fit = λ i. omega (arith, c.type_inv.text i); spelling = spelled ∙ ap b64 c.as_bytes.ensures.value })
    c.encode.ensures
