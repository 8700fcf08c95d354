-- The law of the definitions.
use Rattle.issuer_core.proofs.IssuedSound.{issued_is_sound_holds}
use Rattle.issuer_core.proofs.laws.issued_is_sound.Goals as goal

pub returns : goal.returns
returns c = issued_is_sound_holds
