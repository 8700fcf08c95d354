use Rattle.disclosure.proofs.Verdicts.{one_disclosure}
use Rattle.disclosure.proofs.laws.one_disclosure.Goals as goal

pub returns : goal.returns
returns c = one_disclosure
