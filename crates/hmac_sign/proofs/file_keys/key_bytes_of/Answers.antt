use Rattle.std.proofs.Common.{arith, subst, ap, length, ◌<◌, ◌∙◌}
use Rattle.b64url_text.specs.Base64url.{Decodes}
use Rattle.hmac_sign.proofs.KeyTexts.{short_key}
use Rattle.hmac_sign.proofs.file_keys.key_bytes_of.Goals as goal

pub returns-in-Ok-clause-none : goal.returns-in-Ok-clause-none
returns-in-Ok-clause-none c =
    let code = c.as_bytes.ensures.value ∙ c.as_str.ensures in
    let decodes = subst (λ text. Decodes text c.in-Ok.bytes) code c.in-Ok.ensures.ok in
    let short : length c.in-Ok.bytes < 32 = omega (arith, c.if-bytes-key_min.true, c.key_min.ensures, ap length c.bytes.ensures) in
    short_key c.args.tree.now c.in-Text.text c.in-Ok.bytes c.in-Text.is decodes short
