use Rattle.key_binding.proofs.Bindings.{binding_short}
use Rattle.key_binding.proofs.laws.bound_is_short.Goals as goal

pub returns : goal.returns
returns c = binding_short
