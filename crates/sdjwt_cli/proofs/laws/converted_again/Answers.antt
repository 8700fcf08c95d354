use Rattle.sdjwt_cli.proofs.Converted.{converted_again}
use Rattle.sdjwt_cli.proofs.laws.converted_again.Goals as goal

pub returns : goal.returns
returns c = converted_again
