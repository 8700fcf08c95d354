use Rattle.std.proofs.Common.{◌≡◌, ◌++◌, map, take}
use Rattle.wallet_core.proofs.answering.asked_places.Given as goal

abbrev pub invariant-loop-equal : goal.invariant-loop-equal
invariant-loop-equal l = l.asked ≡ l.query.want ++ map (λ equal. equal.at) (take l.equal-index l.equal-items)
