use Rattle.holder_core.specs.ToSign.{none_good}
use Rattle.holder_core.proofs.SignedLater.{presented_more, not_presented_more}
use Rattle.holder_core.proofs.laws.unsigned_is_presented.Goals as goal

pub returns : goal.returns
returns g c = record {
  presented = λ signer rule text asked alg now answer is. presented_more alg none_good (g.S.Signatures.good signer) (λ head body signature none. absurd none) g.F.Fn rule asked now text answer is;
  refused = λ signer rule text asked alg now error is. not_presented_more alg none_good (g.S.Signatures.good signer) (λ head body signature none. absurd none) g.F.Fn rule asked now text error is;
}
