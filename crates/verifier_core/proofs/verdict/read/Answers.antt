use Rattle.std.proofs.Common.{◌≡◌, Err, ap}
use Rattle.refusals.specs.Lowest.{IsLowest}
use Rattle.json_form.specs.Token.{IsTextRefused}
use Rattle.verifier_core.specs.declared.token_checking.VerifyError.{VerifyError}
use Rattle.verifier_core.specs.Verdict.{FailsFor}
use Rattle.verifier_core.proofs.CheckSteps.{on_fault}
use Rattle.verifier_core.proofs.Verdicts.{few, file_lowest}
use Rattle.verifier_core.proofs.verdict.read.Goals as goal

pub returns-in-Err-clause-refused : goal.returns-in-Err-clause-refused
returns-in-Err-clause-refused c now =
    on_fault c.in-Err.error (IsTextRefused c.args.text.now) (IsLowest (FailsFor c.args.text.now c.args.demands.now now)) (λ fault refused. file_lowest c.args.text.now c.args.demands.now now fault refused) c.in-Err.ensures.refused

pub returns-in-Err-clause-no_memory : goal.returns-in-Err-clause-no_memory
returns-in-Err-clause-no_memory c = λ failed is.
    let same : c.in-Err.error ≡ VerifyError.Memory = cc is in
    c.in-Err.ensures.no_memory failed.plain (ap Err same)

pub read_content-requires : goal.read_content-requires
read_content-requires c = record { few = few c.args.text.now c.in-Ok.token c.in-Ok.ensures.ok }

pub returns-in-Ok-read_content-clause-read : goal.returns-in-Ok-read_content-clause-read
returns-in-Ok-read_content-clause-read c = record { is_token = c.in-Ok.ensures.ok; sent = c.in-Ok-read_content.ensures.sent; is_content = c.in-Ok-read_content.ensures.content }

pub returns-clause-no_memory : goal.returns-clause-no_memory
returns-clause-no_memory c = λ failed is. c.in-Ok.ensures.ok.passes failed.fault failed.fails
