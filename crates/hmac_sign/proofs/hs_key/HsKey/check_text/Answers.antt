use Rattle.std.proofs.Common.{sym, subst}
use Rattle.b64url_text.specs.Base64url.{Decodes}
use Rattle.b64url_text.proofs.Codes.{one_code}
use Rattle.hmac_sign.specs.Hmac.{IsGood}
use Rattle.hmac_sign.proofs.hs_key.HsKey.check_text.Goals as goal

pub returns-in-Ok : goal.returns-in-Ok
returns-in-Ok c =
    let text = c.args.text.now in
    let signature = c.bytes.result.now in
    let decodes = subst (λ t. Decodes t c.in-Ok.signature) c.as_bytes.ensures.value c.in-Ok.ensures.ok in
    let decoded : Decodes text signature = subst (λ x. Decodes text x) (sym c.bytes.ensures) decodes in (
      λ yes. (signature, decoded, c.check.ensures.0 yes),
      λ good. c.check.ensures.1 (subst (λ x. IsGood c.args.self.now c.args.head.now c.args.body.now x) (one_code text good.0 signature good.1 decoded) good.2),
    )
