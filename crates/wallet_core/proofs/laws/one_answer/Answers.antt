use Rattle.wallet_core.proofs.OneAnswer.{one_answer}
use Rattle.wallet_core.proofs.laws.one_answer.Goals as goal

pub returns : goal.returns
returns c = one_answer
