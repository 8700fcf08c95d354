-- The law of the definitions.
use Rattle.rebuild_core.proofs.Presented.{one_node_holds}
use Rattle.rebuild_core.proofs.laws.one_node.Goals as goal

pub returns : goal.returns
returns c = one_node_holds
