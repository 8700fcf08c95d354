use Rattle.std.proofs.Common.{◌≡◌, ◌++◌, take}
use Rattle.issuer_core.proofs.laying.push_copies.Given as goal

abbrev pub invariant-loop-decoy : goal.invariant-loop-decoy
invariant-loop-decoy l = l.digests.items ≡ l.fn.digests.items ++ take l.decoy-index l.fn.decoys
