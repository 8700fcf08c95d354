use Rattle.std.proofs.Common.{◌≡◌, subst, ◌∙◌}
use Rattle.compact_form.specs.Compact.{compact}
use Rattle.refusals.specs.Lowest.{IsLowest}
use Rattle.verifier_core.specs.Check.{OnFault}
use Rattle.verifier_core.specs.Verdict.{Fails}
use Rattle.verifier_core.specs.declared.token_checking.VerifyError.{VerifyError}
use Rattle.sdjwt_cli.proofs.Summaries.{not_refused, is_verified}
use Rattle.sdjwt_cli.proofs.summary.verify_presented.Goals as goal

pub returns-in-Ok : goal.returns-in-Ok
returns-in-Ok c =
    let text : c.as_bytes.result.now ≡ compact c.args.presented.now = c.as_bytes.ensures.value ∙ c.as_str.ensures ∙ c.in_ok-token.ensures.spelling in
    let counted = c.in-Ok.ensures.verdict.counted in
    is_verified c.args.presented.now c.requires.acceptable c.as_bytes.result.now text c.in_ok-policy.policy c.in_ok-policy.ensures c.in-Ok.claims c.in-Ok.ensures.accepted
    c.new-steps.result c.verify_payload.new.steps c.count.result c.new-steps.ensures c.count.ensures counted.0 counted.1 counted.2

pub unreachable-requires : goal.unreachable-requires
unreachable-requires c =
    let text : c.as_bytes.result.now ≡ compact c.args.presented.now = c.as_bytes.ensures.value ∙ c.as_str.ensures ∙ c.in_ok-token.ensures.spelling in
    let lowest = subst (λ (e : VerifyError). OnFault e (IsLowest (Fails c.as_bytes.result.now c.in_ok-policy.policy 0))) c.in-Err-Fault.field-0-is c.in-Err-Fault.ensures.refused in
    not_refused c.args.presented.now c.requires.acceptable c.as_bytes.result.now text c.in_ok-policy.policy c.in_ok-policy.ensures c.in-Err-Fault.field-0-0 lowest
