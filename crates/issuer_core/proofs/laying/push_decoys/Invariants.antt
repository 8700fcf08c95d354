use Rattle.std.proofs.Common.{◌≡◌, drop}
use Rattle.issuer_core.specs.Laid.{digest_elements}
use Rattle.issuer_core.specs.Laying.{elements_joined}
use Rattle.issuer_core.proofs.laying.push_decoys.Given as goal

abbrev pub invariant-loop-digest : goal.invariant-loop-digest
invariant-loop-digest l = elements_joined l.laid (digest_elements (drop l.digest-index l.fn.digests)) ≡ elements_joined l.fn.laid (digest_elements l.fn.digests)
