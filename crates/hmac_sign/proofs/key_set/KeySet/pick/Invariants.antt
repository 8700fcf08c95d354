use Rattle.std.proofs.Common.{◌≡◌, drop, option_map}
use Rattle.hmac_sign.specs.Keys.{picked_key}
use Rattle.hmac_sign.proofs.key_set.KeySet.pick.Given as goal

abbrev pub invariant-loop-named : goal.invariant-loop-named
invariant-loop-named l =
    let kid = option_map (λ name. name.now) l.kid in
    picked_key (drop l.named-index l.named-items) kid l.alg ≡ picked_key l.named-items kid l.alg
