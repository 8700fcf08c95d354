use Rattle.std.proofs.Common.{◌++◌, ◌∙◌, ap, List, ℕ, length, take}
use Rattle.hmac_sign.specs.Algs.{block_length, hash_by}
use Rattle.hmac_sign.specs.Codes.{IsHashing}
use Rattle.hmac_sign.specs.Hmac.{xored}
use Rattle.hmac_sign.proofs.Blocks.{length-hash_by}
use Rattle.hmac_sign.proofs.keyed_hash.hmac.Goals as goal

pub returns-clause-code : goal.returns-clause-code
returns-clause-code c =
    let alg = c.args.alg in
    let text = c.args.text.now in
    let block = take (block_length alg) c.key_block-block.result in
    let inner : IsHashing c.with-inner.result alg (xored block 0x36 ++ text) = c.with-inner.ensures alg _ c.padded_hasher.ensures in
    c.code_over.ensures alg _ _ inner c.padded_hasher-2.ensures ∙ ap (λ (bytes : List ℕ). hash_by alg (xored bytes 0x5c ++ hash_by alg (xored bytes 0x36 ++ text))) c.key_block-block.ensures

pub returns-clause-long : goal.returns-clause-long
returns-clause-long c =
    let alg = c.args.alg in
    ap length (c.code_over.ensures alg _ _ (c.with-inner.ensures alg _ c.padded_hasher.ensures) c.padded_hasher-2.ensures) ∙ length-hash_by alg _
