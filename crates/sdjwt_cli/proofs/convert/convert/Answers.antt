use Rattle.cli_parts.proofs.Stopped.{of_step}
use Rattle.json_form.specs.Token.{IsTextRefused}
use Rattle.sdjwt_cli.specs.Converting.{IsConvertRefused, unread}
use Rattle.sdjwt_cli.proofs.convert.convert.Goals as goal

pub returns-in-Err-clause-refuses : goal.returns-in-Err-clause-refuses
returns-in-Err-clause-refuses c = of_step (IsTextRefused c.args.file.now) (IsConvertRefused c.args.form c.args.file.now) (λ fault refused. unread refused) c.in-Err.stop c.in-Err.ensures.refuses
