use Rattle.cli_parts.proofs.Stopped.{of_step}
use Rattle.json_form.specs.Token.{IsTextRefused}
use Rattle.sdjwt_cli.specs.Show.{IsShowRefused, form}
use Rattle.sdjwt_cli.proofs.show.show.Goals as goal

pub returns-in-Err-clause-refuses : goal.returns-in-Err-clause-refuses
returns-in-Err-clause-refuses c = of_step (IsTextRefused c.args.file.now) (IsShowRefused c.args.file.now) (λ fault refused. form refused) c.in-Err.stop c.in-Err.ensures.refuses
