use Rattle.sdjwt_cli.specs.AnySigner.{any_signer}
use Rattle.sdjwt_cli.proofs.PresentedValues.{presented_by_anyone}
use Rattle.sdjwt_cli.proofs.laws.presented_by_anyone.Goals as goal

pub returns : goal.returns
returns g c issuer holder rule alg binding_alg = presented_by_anyone g.F.Fn rule (any_signer alg (g.I.Signatures.good issuer)) (any_signer binding_alg (g.H.Signatures.good holder))
