-- The law of the definitions.
use Rattle.issuer_core.proofs.LaidOrdered.{laid_is_readable_holds}
use Rattle.issuer_core.proofs.laws.laid_is_readable.Goals as goal

pub returns : goal.returns
returns c = laid_is_readable_holds
