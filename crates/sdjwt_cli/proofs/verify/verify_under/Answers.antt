use Rattle.std.proofs.Common.{◌≡◌, refl, subst}
use Rattle.refusals.specs.declared.fault.Fault.{Fault}
use Rattle.cli_parts.specs.Lines.{refusal}
use Rattle.cli_parts.specs.Stops.{OnRefused}
use Rattle.sdjwt_cli.specs.Verify.{DoesNotVerifyUnder}
use Rattle.cli_parts.proofs.Stopped.{of_refusal}
use Rattle.sdjwt_cli.proofs.verify.verify_under.Goals as goal

pub returns-in-Err-Fault-clause-refuses : goal.returns-in-Err-Fault-clause-refuses
returns-in-Err-Fault-clause-refuses c =
    let fault = c.in-Err-Fault.fault in
    let lowest = rw c.in-Err-Fault.field-0-is at c.in-Err-Fault.ensures.refused in
    of_refusal (DoesNotVerifyUnder c.args.policy.now c.args.token_file.now c.args.now) fault (record { fault = fault; lowest = lowest; line_is = refl }) c.refused.result
    (subst (λ (f : Fault). OnRefused c.refused.result (λ text. text ≡ refusal f)) c.in-Err-Fault.fault-is c.refused.ensures.line)
