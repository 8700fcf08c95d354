-- The law of the definitions.
use Rattle.issuer_core.proofs.LaidDecoys.{laid_is_issued_holds}
use Rattle.issuer_core.proofs.laws.laid_is_issued.Goals as goal

pub returns : goal.returns
returns c = laid_is_issued_holds
