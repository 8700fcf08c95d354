use Rattle.std.proofs.Common.{◌+◌, ◌*◌, arith, refl}
use Rattle.issuer_core.specs.Salts.{salt_piece}
use Rattle.issuer_core.proofs.SaltSteps.{step, four, joined}
use Rattle.issuer_core.proofs.salts.next_piece.Goals as goal

pub returns : goal.returns
unfolding salt_piece
returns c seed k h is =
    let i = 4 * k in
    let s0 = step seed i (i + 1) c.args.rng.now c.next_word.new.self c.next_word.result refl (omega arith) is c.next_word.ensures in
    let s1 = step seed (i + 1) (i + 2) c.next_word.new.self c.next_word-2.new.self c.next_word-2.result (omega arith) (omega arith) s0.1 c.next_word-2.ensures in
    let s2 = step seed (i + 2) (i + 3) c.next_word-2.new.self c.next_word-3.new.self c.next_word-3.result (omega arith) (omega arith) s1.1 c.next_word-3.ensures in
    let s3 = step seed (i + 3) (4 * (k + 1)) c.next_word-3.new.self c.next_word-4.new.self c.next_word-4.result (omega arith) (omega arith) s2.1 c.next_word-4.ensures in
    let b0 = four c.to_le_bytes.result c.next_word.result _ c.to_le_bytes.ensures s0.0 in
    let b1 = four c.to_le_bytes-2.result c.next_word-2.result _ c.to_le_bytes-2.ensures s1.0 in
    let b2 = four c.to_le_bytes-3.result c.next_word-3.result _ c.to_le_bytes-3.ensures s2.0 in
    let b3 = four c.to_le_bytes-4.result c.next_word-4.result _ c.to_le_bytes-4.ensures s3.0 in
    (joined _ _ _ _ _ _ _ _ b0 b1 b2 b3, s3.1)
