use Rattle.std.proofs.Common.{◌∙◌, sym, arith}
use Rattle.b64url_text.specs.Base64url.{AreBytes}
use Rattle.b64url_text.proofs.Codes.{b64-engine}
use Rattle.b64url_text.proofs.codec.encode.Goals as goal

pub returns : goal.returns
returns c =
    let bytes : AreBytes c.args.bytes.now = λ i. omega (arith, c.type_inv.bytes i) in
    c.from_string.ensures ∙ (c.in_ok-text.ensures.text ∙ sym (b64-engine c.args.bytes.now bytes))
