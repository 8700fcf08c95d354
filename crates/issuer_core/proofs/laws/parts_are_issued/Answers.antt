-- The law of the definitions.
use Rattle.issuer_core.proofs.FromLaid.{parts_are_issued_holds}
use Rattle.issuer_core.proofs.laws.parts_are_issued.Goals as goal

pub returns : goal.returns
returns g c signer alg = parts_are_issued_holds alg (g.S.Signatures.good signer)
