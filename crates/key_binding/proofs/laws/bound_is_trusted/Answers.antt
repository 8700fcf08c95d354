use Rattle.key_binding.proofs.Accepted.{accepted}
use Rattle.key_binding.proofs.laws.bound_is_trusted.Goals as goal

pub returns : goal.returns
returns g c signer alg = accepted alg (g.S.Signatures.good signer)
