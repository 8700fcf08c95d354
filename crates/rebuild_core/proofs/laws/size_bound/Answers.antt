-- The law of the definitions.
use Rattle.rebuild_core.proofs.Size.{size_bound_holds, payload_size_bound}
use Rattle.rebuild_core.proofs.laws.size_bound.Goals as goal

pub returns : goal.returns
returns c = record { opened = size_bound_holds; payload = payload_size_bound }
