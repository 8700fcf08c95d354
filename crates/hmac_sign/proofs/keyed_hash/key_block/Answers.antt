use Rattle.std.proofs.Common.{arith, ap, ◌≡◌, ◌≤◌, ◌<◌, ◌∙◌, length, List, ℕ}
use Rattle.hmac_sign.specs.Algs.{block_length, hash_by}
use Rattle.hmac_sign.specs.Hmac.{filled}
use Rattle.hmac_sign.proofs.Blocks.{long_block, short_block}
use Rattle.hmac_sign.proofs.keyed_hash.key_block.Goals as goal

pub returns-then-key-block_len : goal.returns-then-key-block_len
returns-then-key-block_len c =
    let longer : block_length c.args.alg < length c.args.key.now = omega (arith, c.if-key-block_len.true, c.block_len.ensures) in
    let hashed : c.bytes.result.now ≡ hash_by c.args.alg c.args.key.now = c.bytes.ensures ∙ c.finish.ensures c.args.alg c.args.key.now c.new.ensures in
    long_block c.args.alg c.args.key.now c.filled.result longer (c.filled.ensures ∙ ap (λ (bytes : List ℕ). filled 128 bytes) hashed)

pub returns-else-key-block_len : goal.returns-else-key-block_len
returns-else-key-block_len c =
    let fits : length c.args.key.now ≤ block_length c.args.alg = omega (arith, c.if-key-block_len.false, c.block_len.ensures) in
    short_block c.args.alg c.args.key.now c.filled-else-key-block_len.result fits c.filled-else-key-block_len.ensures
