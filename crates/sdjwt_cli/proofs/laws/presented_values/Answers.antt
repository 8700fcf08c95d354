use Rattle.sdjwt_cli.proofs.PresentedValues.{presented_over_values}
use Rattle.sdjwt_cli.proofs.laws.presented_values.Goals as goal

pub returns : goal.returns
returns g c rule = presented_over_values g.F.Fn rule
