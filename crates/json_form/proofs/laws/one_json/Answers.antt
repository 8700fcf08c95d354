use Rattle.json_form.proofs.OneForm.{one_json, no_fault, one_fault}
use Rattle.json_form.proofs.laws.one_json.Goals as goal

pub returns : goal.returns
returns c = record { one = one_json; not_both = no_fault; one_fault = one_fault }
