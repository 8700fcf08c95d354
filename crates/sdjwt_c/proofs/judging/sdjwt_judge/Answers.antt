-- Where something may be said, what is told is handed over.
use Rattle.std.proofs.Common.{◌≡◌, Option, None, Some, subst}
use Rattle.std.specs.Prelude.{IsSomeAnd}
use Rattle.verifier_core.specs.declared.asking.Answers.{Answers}
use Rattle.sdjwt_c.specs.Judging.{HandsVerdictBy, JudgesFile}
use Rattle.sdjwt_c.proofs.Tellings.{handed_verdict}
use Rattle.sdjwt_c.proofs.judging.sdjwt_judge.Goals as goal

pub returns : goal.returns
returns c =
    let policy = c.args.policy.now in let algs = c.args.algs.now in let token = c.args.token.now in let now = c.args.now in let answers = c.in-Some.answers in
    let Said : Option Answers → Type 0 = λ said. HandsVerdictBy (said ≡ None) (λ told. IsSomeAnd said (λ answers. JudgesFile policy algs token now answers told)) c.args.room.now c.hand_verdict.new.room c.hand_verdict.new.len c.hand_verdict.result in
    subst Said c.in-Some.ensures
    (handed_verdict (Some answers ≡ None) (λ none. cc none) (λ told. JudgesFile policy algs token now answers told) c.args.room.now c.hand_verdict.new.room c.hand_verdict.new.len c.hand_verdict.result
    c.judge_file.result c.judge_file.ensures c.hand_verdict.ensures)
