use Rattle.rebuild_core.proofs.ChosenShown.{choice_shown_holds}
use Rattle.rebuild_core.proofs.laws.choice_shown.Goals as goal

pub returns : goal.returns
returns c = choice_shown_holds
