use Rattle.std.proofs.Common.{◌≢◌, string_bytes, ap, ◌∙◌, rules}
use Rattle.cli_parts.specs.Lines.{line}
use Rattle.audit_core.specs.declared.errors.AuditError.TheVariants.{Memory}
use Rattle.audit_core.proofs.Answering.{says_no}
use Rattle.audit_core.proofs.run.audit_for.Goals as goal

pub returns-in_ok-as_line-in-Err : goal.returns-in_ok-as_line-in-Err
returns-in_ok-as_line-in-Err c =
    let error = c.in-Err.error in
    let memory : error ≢ Memory = search rules in
    let told = c.in_ok-as_line-in-Err.ensures ∙ ap line c.in_ok-refusal_line-in-Err.ensures in
    record {
      replies = λ order_file is. says_no order_file c.args.token_file.now (string_bytes c.in_ok-as_line-in-Err.field-0) c.args.asked c.alg_name.result error is c.alg_name.ensures memory c.in-Err.ensures.refused told;
      read = tt;
    }
