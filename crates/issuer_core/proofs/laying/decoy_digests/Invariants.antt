use Rattle.std.proofs.Common.{◌≡◌, ◌++◌, map, drop}
use Rattle.disclosure.specs.Digest.{digest_of}
use Rattle.issuer_core.proofs.laying.decoy_digests.Given as goal

abbrev pub invariant-loop-k : goal.invariant-loop-k
invariant-loop-k l = l.digests ++ map (digest_of l.fn.hiding.hash) (drop l.k l.fn.hiding.salts.now) ≡ map (digest_of l.fn.hiding.hash) (drop l.fn.first l.fn.hiding.salts.now)
