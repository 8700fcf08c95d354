use Rattle.key_binding.proofs.Accepted.{accepted_by_key}
use Rattle.key_binding.proofs.laws.bound_is_accepted.Goals as goal

pub returns : goal.returns
returns c = accepted_by_key
