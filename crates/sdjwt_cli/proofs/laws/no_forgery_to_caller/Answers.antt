use Rattle.sdjwt_cli.proofs.NoForgery.{to_caller}
use Rattle.sdjwt_cli.proofs.laws.no_forgery_to_caller.Goals as goal

pub returns : goal.returns
returns g c signer alg = to_caller alg (g.S.Signatures.good signer)
