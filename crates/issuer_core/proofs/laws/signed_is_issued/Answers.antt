use Rattle.issuer_core.proofs.FromLaid.{signed_is_issued_holds}
use Rattle.issuer_core.proofs.laws.signed_is_issued.Goals as goal

pub returns : goal.returns
returns g c signer alg = signed_is_issued_holds alg (g.S.Signatures.good signer)
