use Rattle.std.proofs.Common.{take, arith}
use Rattle.b64url_text.specs.Base64url.{AreBytes}
use Rattle.b64url_text.proofs.Codes.{decoded, refused, AreBytes-take}
use Rattle.b64url_text.proofs.codec.decode_into.Goals as goal

pub returns-in-Ok-clause-ok : goal.returns-in-Ok-clause-ok
returns-in-Ok-clause-ok c =
    let text : AreBytes c.args.text.now = λ i. omega (arith, c.type_inv.text i) in
    let room : AreBytes c.decode_slice_unchecked.new.output = λ i. omega (arith, c.type_inv.room i) in
    let front = AreBytes-take c.in-Ok.count c.decode_slice_unchecked.new.output room in
    decoded c.args.text.now (take c.in-Ok.count c.decode_slice_unchecked.new.output) text front c.in-Ok.ensures.ok.0

pub returns-in-Err-clause-not_base64 : goal.returns-in-Err-clause-not_base64
returns-in-Err-clause-not_base64 c = refused c.args.text.now c.in-Err.field-0 c.in-Err.ensures.err
