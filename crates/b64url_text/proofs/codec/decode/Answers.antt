use Rattle.std.proofs.Common.{arith}
use Rattle.b64url_text.specs.Base64url.{AreBytes}
use Rattle.b64url_text.proofs.Codes.{decoded, refused}
use Rattle.b64url_text.proofs.codec.decode.Goals as goal

pub returns-in-Ok-clause-ok : goal.returns-in-Ok-clause-ok
returns-in-Ok-clause-ok c =
    let text : AreBytes c.args.text.now = λ i. omega (arith, c.type_inv.text i) in
    rw c.from_vec.ensures (decoded c.args.text.now c.in-Ok.bytes.items text c.in-Ok.ensures.bytes c.in-Ok.ensures.ok)

pub returns-in-Err-DecodeError-clause-not_base64 : goal.returns-in-Err-DecodeError-clause-not_base64
returns-in-Err-DecodeError-clause-not_base64 c _ =
    refused c.args.text.now c.in-Err-DecodeError.field-0-0 (rw c.in-Err-DecodeError.field-0-is at c.in-Err-DecodeError.ensures.err)
