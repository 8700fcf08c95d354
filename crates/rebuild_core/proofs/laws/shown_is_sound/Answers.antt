-- The law of the definitions.
use Rattle.rebuild_core.proofs.AllShown.{shown_is_sound_holds}
use Rattle.rebuild_core.proofs.laws.shown_is_sound.Goals as goal

pub returns : goal.returns
returns c = shown_is_sound_holds
