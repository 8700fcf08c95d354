use Rattle.std.proofs.Common.{ℕ, length, bit_xor, subst, ap, sym, arith}
use Rattle.std.proofs.lemmas.List.{length-take-le, length-map}
use Rattle.sha2.specs.Hashers.{Holds256}
use Rattle.hmac_sign.proofs.Blocks.{xored_front}
use Rattle.hmac_sign.proofs.begun.padded_sha256.Goals as goal

pub slice_bounds-new_with_prefix-end-2 : goal.slice_bounds-new_with_prefix-end-2
slice_bounds-new_with_prefix-end-2 c =
    sym (length-take-le 64 c.padded.result (omega (arith, ap length c.padded.ensures, length-map c.args.block.now (λ (byte : ℕ). bit_xor byte c.args.pad), c.told-block)))

pub returns : goal.returns
returns c = subst (λ bytes. Holds256 c.new_with_prefix.result bytes) (xored_front 64 c.args.block.now c.padded.result c.args.pad c.padded.ensures) c.new_with_prefix.ensures
