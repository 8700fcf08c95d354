use Rattle.std.proofs.Common.{Err, ap}
use Rattle.cli_parts.proofs.Stopped.{of_fault}
use Rattle.json_form.specs.Token.{IsTextRefused}
use Rattle.sdjwt_cli.proofs.token_file.token_of.Goals as goal

pub returns-in-Err-Fault-clause-refuses : goal.returns-in-Err-Fault-clause-refuses
returns-in-Err-Fault-clause-refuses c =
    let fault = c.in-Err-Fault.fault in
    of_fault (IsTextRefused c.args.file.now) fault (c.in-Err-Fault.ensures.refused fault (ap Err c.in-Err-Fault.field-0-is)) c.refused.result c.refused.ensures.line
