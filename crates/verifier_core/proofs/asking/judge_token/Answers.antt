use Rattle.std.proofs.Common.{refl, subst, arith}
use Rattle.refusals.specs.Lowest.{IsLowest}
use Rattle.verifier_core.specs.AskingSteps.{demands_in, IsTried}
use Rattle.verifier_core.specs.Check.{IsSigned, IsUncounted, IsUnopened}
use Rattle.verifier_core.specs.Verdict.{Demands, FailsFor}
use Rattle.verifier_core.proofs.Verdicts.{few}
use Rattle.verifier_core.proofs.Contents.{read_uncounted}
use Rattle.verifier_core.proofs.Judgements.{opened_so, not_opened, not_issuer, where_issuer}
use Rattle.verifier_core.proofs.JudgeSteps.{at_fault}
use Rattle.verifier_core.proofs.asking.judge_token.Goals as goal

pub read_content-requires : goal.read_content-requires
read_content-requires c = record { few = few c.args.case.text.now c.args.token.now c.requires.token }

pub judge_opened-requires : goal.judge_opened-requires
judge_opened-requires c =
    let token = c.args.token.now in
    let rules = c.caller_demands-demands.result.rules in
    let content = c.in-Ok.ensures.content in
    record {
      tried = subst (λ (d : Demands). IsTried c.args.case.text.now d token c.hash-hash.result c.open_payload-opened.result) c.caller_demands-demands.ensures
          (record {
            is_token = c.requires.token;
            sent = c.in-Ok.ensures.sent;
            signed = c.in-Ok.ensures.signed;
            hash_is = c.hash-hash.ensures token rules content;
            checked = c.open_payload-opened.ensures.checked token rules content;
            refused = (c.open_payload-opened.ensures.opened token rules content).refused;
          });
    }

-- ---- the look-ups

pub returns-in-Ok-clause-counted : goal.returns-in-Ok-clause-counted
returns-in-Ok-clause-counted c =
    let opening = c.open_payload-opened.ensures.opened c.args.token.now c.caller_demands-demands.result.rules c.in-Ok.ensures.content in
    opened_so c.judge_opened.result c.open_payload-opened.result _ c.judge_opened.ensures.opened opening.counted

-- the issuer's signature is good, so it is not asked for
pub returns-in-Ok-clause-none_yet : goal.returns-in-Ok-clause-none_yet
returns-in-Ok-clause-none_yet c =
    let k = c.args.case in
    let token = c.args.token.now in
    let signed = subst (λ (d : Demands). IsSigned token.parts.signed token.outer d.rules) c.caller_demands-demands.ensures c.in-Ok.ensures.signed in
    not_issuer k.text.now k.policy.now k.binding_algs.now k.now k.answers token signed c.judge_opened.result _ c.judge_opened.ensures.judged

pub returns-in-Ok-clause-within : goal.returns-in-Ok-clause-within
returns-in-Ok-clause-within c = (c.open_payload-opened.ensures.opened c.args.token.now c.caller_demands-demands.result.rules c.in-Ok.ensures.content).within

-- none of the conditions up to 13 fails, so that nothing is said of look-ups where one does
pub returns-in-Ok-clause-uncounted : goal.returns-in-Ok-clause-uncounted
returns-in-Ok-clause-uncounted c =
    let k = c.args.case in
    let demands = c.caller_demands-demands.result in
    subst (λ (d : Demands). IsUncounted (FailsFor k.text.now d k.now) c.args.steps.now c.open_payload-opened.new.steps) c.caller_demands-demands.ensures
    (read_uncounted k.text.now demands k.now c.args.token.now c.requires.token c.in-Ok.ensures.sent c.in-Ok.content c.in-Ok.ensures.content c.args.steps.now c.open_payload-opened.new.steps)

pub returns-clause-counted : goal.returns-clause-counted
returns-clause-counted c =
    let k = c.args.case in
    let demands = c.caller_demands-demands.result in
    let fault = c.in_ok-fault_of-in-Err.field-0 in
    let refused = at_fault c.in-Err.error fault (IsLowest (FailsFor k.text.now demands k.now)) c.in_ok-fault_of-in-Err.ensures (c.in-Err.ensures.refused k.text.now k.now c.requires.token) in
    let low = at_fault c.in-Err.error fault IsUnopened c.in_ok-fault_of-in-Err.ensures c.in-Err.ensures.unopened in
    not_opened k.text.now (demands_in k) k.now k.answers fault (subst (λ (d : Demands). IsLowest (FailsFor k.text.now d k.now) fault) c.caller_demands-demands.ensures refused) (omega (arith, low)) c.on_content.result _ c.on_content.ensures

pub returns-clause-none_yet : goal.returns-clause-none_yet
returns-clause-none_yet c = where_issuer c.on_content.result _ refl
