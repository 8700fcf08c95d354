use Rattle.sdjwt_cli.proofs.Verdicts.{one_answer}
use Rattle.sdjwt_cli.proofs.laws.one_answer.Goals as goal

pub returns : goal.returns
returns c = one_answer
