use Rattle.std.proofs.Common.{◌≡◌, ◌++◌, take, drop}
use Rattle.hmac_sign.specs.Hmac.{xored}
use Rattle.hmac_sign.proofs.keyed_hash.padded.Given as goal

abbrev pub invariant-loop-i : goal.invariant-loop-i
invariant-loop-i l = l.bytes ≡ xored (take l.i l.block) l.pad ++ drop l.i l.block
