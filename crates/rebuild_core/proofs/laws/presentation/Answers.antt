-- The law of the definitions.
use Rattle.rebuild_core.proofs.Presented.{presentation_holds}
use Rattle.rebuild_core.proofs.laws.presentation.Goals as goal

pub returns : goal.returns
returns c = presentation_holds
