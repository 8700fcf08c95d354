-- The law of the definitions.
use Rattle.verifier_core.proofs.StaysAsked.{issuer_stays, holder_stays}
use Rattle.verifier_core.proofs.laws.answers_were_asked.Goals as goal

pub returns : goal.returns
returns c = record {
  issuer = λ text policy algs now before question answer. issuer_stays text policy algs now before question answer;
  holder = λ text policy algs now before question payload answer. holder_stays text policy algs now answer before question payload;
}
