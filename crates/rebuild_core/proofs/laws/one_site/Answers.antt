-- The law of the definitions.
use Rattle.rebuild_core.proofs.OneSite.{one_site_holds}
use Rattle.rebuild_core.proofs.laws.one_site.Goals as goal

pub returns : goal.returns
returns c = one_site_holds
