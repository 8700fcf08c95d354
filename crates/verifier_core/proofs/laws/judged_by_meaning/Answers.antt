-- The law of the definitions.
use Rattle.claim_tree.specs.Tree.{Tree}
use Rattle.verifier_core.specs.Meanings.{meanings}
use Rattle.verifier_core.proofs.ByMeaning.{one_acceptance, lowest_under, one_verdict, answered}
use Rattle.verifier_core.proofs.laws.judged_by_meaning.Goals as goal

pub returns : goal.returns
returns g c = record {
  accepted = λ issuer holder text policy algs now answers payload told.
      one_acceptance (meanings (g.I.Signatures.good issuer) (λ (p : Tree). g.H.Signatures.good (holder p))) text policy algs now answers told.truth told.done payload;
  refused = λ issuer holder text policy algs now answers fault told.
      lowest_under (meanings (g.I.Signatures.good issuer) (λ (p : Tree). g.H.Signatures.good (holder p))) text policy algs now answers told.truth told.done fault;
  one_verdict = λ issuer holder. one_verdict (meanings (g.I.Signatures.good issuer) (λ (p : Tree). g.H.Signatures.good (holder p)));
  answered = λ issuer. answered (g.I.Signatures.good issuer);
}
