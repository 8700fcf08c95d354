use Rattle.json_form.proofs.Tokens.{one, not_both, one_refusal}
use Rattle.json_form.proofs.laws.one_token.Goals as goal

pub returns : goal.returns
returns c = record { one = one; not_both = not_both; one_fault = one_refusal }
