use Rattle.verifier_core.proofs.Policies as policies
use Rattle.verifier_core.proofs.laws.one_policy.Goals as goal

pub returns : goal.returns
returns c = record { one = policies.one_policy; not_both = policies.not_both; one_fault = policies.one_fault }
