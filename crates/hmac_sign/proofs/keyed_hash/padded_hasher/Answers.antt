use Rattle.std.proofs.Common.{subst, take, ℕ}
use Rattle.hmac_sign.specs.Algs.{block_length}
use Rattle.hmac_sign.specs.Codes.{IsHashing}
use Rattle.hmac_sign.proofs.Blocks.{xored_front}
use Rattle.hmac_sign.proofs.keyed_hash.padded_hasher.Goals as goal

pub returns : goal.returns
returns c =
    let alg = c.args.alg in
    let front = xored_front (block_length alg) c.args.block.now c.padded.result c.args.pad c.padded.ensures in
    subst (λ bytes. IsHashing c.new.result alg bytes) front (subst (λ (n : ℕ). IsHashing c.new.result alg (take n c.padded.result)) c.block_len.ensures c.new.ensures)
