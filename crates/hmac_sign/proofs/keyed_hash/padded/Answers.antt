use Rattle.std.proofs.Common.{ℕ, ◌<◌, length, bit_xor, slice_index_or, take, drop, map, ap, sym, arith}
use Rattle.std.proofs.lemmas.List.{get_or_default, length-append, length-map, length-drop, length-take}
use Rattle.std.proofs.lemmas.List.Edits.{map_over_more}
use Rattle.hmac_sign.proofs.keyed_hash.padded.Goals as goal

pub loop-i-preserved : goal.loop-i-preserved
loop-i-preserved c =
    let block = c.args.block.now in
    let bytes = c.loop-i.bytes in
    let i = c.loop-i.i in
    let with_pad = λ (byte : ℕ). bit_xor byte c.args.pad in
    let below : i < length block = omega (arith, c.told-block, c.loop-i-test.true) in
    let reaches : i < length bytes = omega (arith, below, ap length c.loop-i.invariant, length-append (map with_pad (take i block)) (drop i block), length-map (take i block) with_pad, length-take i block, length-drop i block) in
    map_over_more with_pad block bytes i (slice_index_or bytes i 0) below c.loop-i.invariant (sym (get_or_default bytes i (slice_index_or bytes i 0) 0 reaches))
