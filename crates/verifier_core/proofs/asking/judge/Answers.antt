use Rattle.std.proofs.Common.{refl, arith}
use Rattle.json_form.specs.Token.{IsTextRefused}
use Rattle.verifier_core.specs.Asking.{caller_demands}
use Rattle.verifier_core.proofs.Asked.{done_low}
use Rattle.verifier_core.proofs.JudgeSteps.{at_fault, text_lowest, text_low}
use Rattle.verifier_core.proofs.Judgements.{not_opened, where_issuer}
use Rattle.verifier_core.proofs.asking.judge.Goals as goal

pub refused-requires-clause-lowest : goal.refused-requires-clause-lowest
refused-requires-clause-lowest c =
    let a = c.args in
    text_lowest a.text.now (caller_demands a.policy.now a.binding_algs.now a.answers) a.now c.in_ok-fault_of-in-Err.field-0
    (at_fault c.in-Err.error c.in_ok-fault_of-in-Err.field-0 (IsTextRefused a.text.now) c.in_ok-fault_of-in-Err.ensures c.in-Err.ensures.refused)

pub refused-requires-clause-done : goal.refused-requires-clause-done
refused-requires-clause-done c =
    let a = c.args in
    let demands = caller_demands a.policy.now a.binding_algs.now a.answers in
    let refused = at_fault c.in-Err.error c.in_ok-fault_of-in-Err.field-0 (IsTextRefused a.text.now) c.in_ok-fault_of-in-Err.ensures c.in-Err.ensures.refused in
    done_low a.text.now demands a.now c.in_ok-fault_of-in-Err.field-0 (text_lowest a.text.now demands a.now c.in_ok-fault_of-in-Err.field-0 refused) a.answers (text_low a.text.now demands a.now c.in_ok-fault_of-in-Err.field-0 refused)

pub returns-in_ok-fault_of-in-Err-clause-counted : goal.returns-in_ok-fault_of-in-Err-clause-counted
returns-in_ok-fault_of-in-Err-clause-counted c =
    let a = c.args in
    let demands = caller_demands a.policy.now a.binding_algs.now a.answers in
    let fault = c.in_ok-fault_of-in-Err.field-0 in
    let refused = at_fault c.in-Err.error fault (IsTextRefused a.text.now) c.in_ok-fault_of-in-Err.ensures c.in-Err.ensures.refused in
    let low = text_low a.text.now demands a.now fault refused in
    not_opened a.text.now demands a.now a.answers fault (text_lowest a.text.now demands a.now fault refused) (omega (arith, low)) c.refused.result _ c.refused.ensures

pub returns-in_ok-fault_of-in-Err-clause-none_yet : goal.returns-in_ok-fault_of-in-Err-clause-none_yet
returns-in_ok-fault_of-in-Err-clause-none_yet c = where_issuer c.refused.result _ refl
