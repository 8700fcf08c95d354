use Rattle.verifier_core.specs.Verdict.{demands_of}
use Rattle.verifier_core.proofs.OneVerdict as verdicts
use Rattle.verifier_core.proofs.laws.one_verdict.Goals as goal

pub returns : goal.returns
returns c = record {
  not_both = λ content policy. verdicts.accepted_not_refused content (demands_of policy);
  one_payload = λ content policy. verdicts.one_accepted content (demands_of policy);
  one_fault = λ content policy. verdicts.one_lowest content (demands_of policy);
}
