-- The law of the definitions.
use Rattle.audit_core.proofs.IssuedLaw.{issued_passes_holds, key_issued_passes_holds}
use Rattle.audit_core.proofs.laws.audited.Goals as goal

pub returns : goal.returns
returns g c = record {
  by_signer = λ signer alg. issued_passes_holds alg (g.S.Signatures.good signer);
  by_key = λ key. key_issued_passes_holds key;
}
