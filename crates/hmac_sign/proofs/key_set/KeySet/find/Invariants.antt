use Rattle.std.proofs.Common.{◌≡◌, drop}
use Rattle.hmac_sign.specs.Keys.{key_named}
use Rattle.hmac_sign.proofs.key_set.KeySet.find.Given as goal

abbrev pub invariant-loop-named : goal.invariant-loop-named
invariant-loop-named l = key_named (drop l.named-index l.named-items) l.kid ≡ key_named l.named-items l.kid
