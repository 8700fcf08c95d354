use Rattle.disclosure.proofs.Verdicts.{not_both, one_cause}
use Rattle.disclosure.proofs.laws.one_verdict.Goals as goal

pub returns : goal.returns
returns c = record { not_both = not_both; one_cause = one_cause }
