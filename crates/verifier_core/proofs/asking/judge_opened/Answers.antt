use Rattle.std.proofs.Common.{refl, sym, subst}
use Rattle.std.specs.Prelude.{IsOk}
use Rattle.verifier_core.specs.AskingSteps.{demands_in, IsTried}
use Rattle.verifier_core.proofs.Judgements.{where_opened, not_opened}
use Rattle.verifier_core.proofs.JudgeSteps.{unopened_low, unopened_lowest, unopened_needed, unopened_done, shown_accepted, shown_lowest, shown_opened}
use Rattle.verifier_core.proofs.asking.judge_opened.Goals as goal

pub refused-requires : goal.refused-requires
refused-requires c =
    let k = c.args.case in
    let token = c.args.token.now in
    let tried = subst (IsTried k.text.now (demands_in k) token c.args.hash) c.in-Err.is c.requires.tried in
    let fault = c.in_ok-fault_of-in-Err.field-0 in
    let at = c.in_ok-fault_of-in-Err.ensures in
    record {
      lowest = unopened_lowest k token c.args.hash c.in-Err.error fault at tried;
      needed = unopened_needed k token c.args.hash c.in-Err.error fault at tried;
      done = unopened_done k token c.args.hash c.in-Err.error fault at tried;
    }

pub accepted-requires : goal.accepted-requires
accepted-requires c =
    let k = c.args.case in
    let token = c.args.token.now in
    let tried = subst (IsTried k.text.now (demands_in k) token c.args.hash) c.in-Ok.is c.requires.tried in
    record {
      token = tried.is_token;
      signed = tried.signed;
      accepted = shown_accepted k token c.args.hash c.in-Ok.payload tried c.caller_demands.result c.caller_demands.ensures c.in-Ok-check_shown.ensures.accepted;
    }

pub on_shown-requires : goal.on_shown-requires
on_shown-requires c =
    let k = c.args.case in
    let token = c.args.token.now in
    let tried = subst (IsTried k.text.now (demands_in k) token c.args.hash) c.in-Ok.is c.requires.tried in
    record {
      token = tried.is_token;
      lowest = shown_lowest k token c.args.hash c.in-Ok.payload tried c.caller_demands.result c.caller_demands.ensures c.in-Err-check_shown.error c.in_ok-fault_of-in-Err-check_shown.field-0 c.in_ok-fault_of-in-Err-check_shown.ensures c.in-Err-check_shown.ensures.refused;
      signed = tried.signed;
      opened = shown_opened k token c.args.hash c.in-Ok.payload tried c.caller_demands.result c.caller_demands.ensures;
    }

pub returns-in-Err-clause-opened : goal.returns-in-Err-clause-opened
returns-in-Err-clause-opened c =
    let k = c.args.case in
    let tried = subst (IsTried k.text.now (demands_in k) c.args.token.now c.args.hash) c.in-Err.is c.requires.tried in
    let lowest = unopened_lowest k c.args.token.now c.args.hash c.in-Err.error c.in_ok-fault_of-in-Err.field-0 c.in_ok-fault_of-in-Err.ensures tried in
    let low = unopened_low k c.args.token.now c.args.hash c.in-Err.error c.in_ok-fault_of-in-Err.field-0 c.in_ok-fault_of-in-Err.ensures tried in
    not_opened k.text.now (demands_in k) k.now k.answers c.in_ok-fault_of-in-Err.field-0 lowest low c.refused.result (IsOk c.args.opened) c.refused.ensures

pub returns-in-Ok-check_shown-clause-opened : goal.returns-in-Ok-check_shown-clause-opened
returns-in-Ok-check_shown-clause-opened c = where_opened c.accepted.result _ (subst IsOk (sym c.in-Ok.is) refl)

pub returns-in_ok-fault_of-in-Err-check_shown-clause-opened : goal.returns-in_ok-fault_of-in-Err-check_shown-clause-opened
returns-in_ok-fault_of-in-Err-check_shown-clause-opened c = where_opened c.on_shown.result _ (subst IsOk (sym c.in-Ok.is) refl)
