use Rattle.audit_core.proofs.Verdicts.{one_verdict}
use Rattle.audit_core.proofs.laws.one_audit.Goals as goal

pub returns : goal.returns
returns g c = λ signer o alg content. one_verdict o alg (g.S.Signatures.good signer) content
