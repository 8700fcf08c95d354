-- What is told of the judgement is so of the token under these algorithms.
use Rattle.std.proofs.Common.{inr}
use Rattle.verifier_core.specs.Asking.{caller_demands, IsJudged}
use Rattle.sdjwt_c.specs.Judging.{JudgesUnder}
use Rattle.sdjwt_c.specs.JudgingSteps.{TellsJudgement}
use Rattle.sdjwt_c.proofs.Tellings.{told_more, tells_judged}
use Rattle.sdjwt_c.proofs.verdict.judge_under.Goals as goal

pub returns : goal.returns
returns c =
    let k = c.args.case in let policy = c.args.policy.now in let names = c.in_ok-algs.algs in
    let demands = caller_demands policy names k.answers in
    let judged : IsJudged k.token.now demands k.now k.answers c.judge.result = record {
      accepted = c.judge.ensures.accepted;
      good = c.judge.ensures.good;
      refused = c.judge.ensures.refused;
      asks_issuer = c.judge.ensures.asks_issuer;
      asks_holder = c.judge.ensures.asks_holder;
      needed = c.judge.ensures.needed;
      done = c.judge.ensures.done;
      not_asked = c.judge.ensures.not_asked;
    } in
    told_more (TellsJudgement c.judge.result) (JudgesUnder policy k.algs.now k.token.now k.now k.answers)
    (λ told is. inr (record { names = names; says = c.in_ok-algs.ensures.algs; tells = tells_judged k.token.now demands k.now k.answers c.judge.result judged told is }))
    c.told.result c.told.ensures
