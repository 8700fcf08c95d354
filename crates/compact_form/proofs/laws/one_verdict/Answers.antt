use Rattle.compact_form.proofs.Verdicts.{not_both, one_fault, one_value}
use Rattle.compact_form.proofs.laws.one_verdict.Goals as goal

pub returns : goal.returns
returns c = record { not_both = not_both; one_fault = one_fault; one_value = one_value }
