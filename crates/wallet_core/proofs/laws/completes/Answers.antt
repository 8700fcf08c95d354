use Rattle.wallet_core.proofs.OneAnswer.{completes}
use Rattle.wallet_core.proofs.laws.completes.Goals as goal

pub returns : goal.returns
returns c = completes
