use Rattle.std.proofs.Common.{◌≡◌, ◌↔◌}
use Rattle.hmac_sign.proofs.Equal.{SameBelow}
use Rattle.hmac_sign.proofs.keyed_hash.are_equal.Given as goal

abbrev pub invariant-loop-i : goal.invariant-loop-i
invariant-loop-i l = (l.differing ≡ 0) ↔ SameBelow l.code l.other l.i
