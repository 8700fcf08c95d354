use Rattle.holder_core.specs.Present.{refused}
use Rattle.holder_core.proofs.SignedLater.{signed_answer, unsent_with_refused}
use Rattle.holder_core.proofs.laws.signed_is_presented.Goals as goal

pub returns : goal.returns
returns g c = record {
  presented = λ signer rule text asked alg now unsigned signature answer is signed sent. record {
    token = is.token;
    is_token = is.is_token;
    is_answer = signed_answer g.F.Fn rule is.token asked alg now (g.S.Signatures.good signer) unsigned is.is_to_sign signature signed answer sent;
  };
  refused = λ signer rule text asked alg now unsigned signature error is signed unsent.
      refused is.token is.is_token (unsent_with_refused g.F.Fn rule is.token asked alg now (g.S.Signatures.good signer) unsigned is.is_to_sign signature signed error unsent);
}
