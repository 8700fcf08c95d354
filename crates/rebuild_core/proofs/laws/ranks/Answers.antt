use Rattle.rebuild_core.proofs.Ranked.{ranks_hold}
use Rattle.rebuild_core.proofs.laws.ranks.Goals as goal

pub returns : goal.returns
returns c = ranks_hold
