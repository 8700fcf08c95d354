use Rattle.sdjwt_cli.proofs.NoForgery.{no_forgery_holds, by_policy}
use Rattle.sdjwt_cli.proofs.laws.no_forgery.Goals as goal

pub returns : goal.returns
returns g c = record {
  demanded = λ signer alg. no_forgery_holds alg (g.S.Signatures.good signer);
  by_policy = λ signer alg. by_policy alg (g.S.Signatures.good signer);
}
