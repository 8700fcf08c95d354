use Rattle.std.proofs.Common.{◌≡◌, ◌++◌, OnOk, string_bytes, subst}
use Rattle.std.proofs.lemmas.Result.{on_ok_weaker}
use Rattle.refusals.specs.declared.fault.Fault.{Fault}
use Rattle.refusals.specs.RefusedText.{fault_text}
use Rattle.cli_parts.specs.Lines.{line}
use Rattle.feed_core.proofs.FeedVerdicts.{line_accepted, line_refused}
use Rattle.feed_core.proofs.Told.{told_one}
use Rattle.feed_core.proofs.verdict_line.add_verdict.Goals as goal

pub returns-in-Ok-clause-told : goal.returns-in-Ok-clause-told
returns-in-Ok-clause-told c =
    let token = c.args.token.now in
    on_ok_weaker c.add_accepted.result (λ p. (line p.0, told_one c.args.policy.now c.args.now token p.0 p.1, p.2))
    (line_accepted c.args.policy.now c.args.now token _ c.in-Ok.ensures.accepted c.add_accepted.result _ _ c.add_accepted.ensures.added)

pub returns-in-Err-Fault-clause-told : goal.returns-in-Err-Fault-clause-told
returns-in-Err-Fault-clause-told c =
    let token = c.args.token.now in
    let fault = c.in-Err-Fault.fault in
    let lowest = rw c.in-Err-Fault.field-0-is at c.in-Err-Fault.ensures.refused in
    let P : Fault → Type 0 = λ f. OnOk c.add_refused.result (string_bytes c.add_refused.new.held ≡ string_bytes c.args.held.now ++ line (fault_text f)) in
    on_ok_weaker c.add_refused.result (λ p. (line p.0, told_one c.args.policy.now c.args.now token p.0 p.1, p.2))
    (line_refused c.args.policy.now c.args.now token fault lowest c.add_refused.result _ _ (subst P c.in-Err-Fault.fault-is c.add_refused.ensures.added))
