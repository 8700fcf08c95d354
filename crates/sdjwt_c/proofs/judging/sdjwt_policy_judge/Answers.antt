-- Under the policy that the handle held, where something may be said.
use Rattle.std.proofs.Common.{◌≡◌, ◌⊎◌, Option, None, Some, ap, ◌∙◌, subst}
use Rattle.std.specs.Prelude.{IsSomeAnd}
use Rattle.verifier_core.specs.declared.asking.Answers.{Answers}
use Rattle.verifier_core.specs.declared.policy.Policy.{Policy}
use Rattle.sdjwt_c.specs.Judging.{HandsVerdictBy, JudgesUnder}
use Rattle.sdjwt_c.specs.Numbers.{answers_numbered}
use Rattle.sdjwt_c.proofs.Tellings.{handed_verdict, both_there}
use Rattle.sdjwt_c.proofs.judging.sdjwt_policy_judge.Goals as goal

pub returns-clause-answers : goal.returns-clause-answers
returns-clause-answers c =
    let algs = c.args.algs.now in let token = c.args.token.now in let now = c.args.now in let policy = c.deref.result.now in let answers = c.in-Some.answers in
    let Under : Option Policy → Option Answers → Type 0 = λ held said. HandsVerdictBy ((held ≡ None) ⊎ (said ≡ None)) (λ told. IsSomeAnd held (λ policy. IsSomeAnd said (λ answers. JudgesUnder policy algs token now answers told)))
    c.args.room.now c.hand_verdict.new.room c.hand_verdict.new.len c.hand_verdict.result in
    subst (λ (held : Option Policy). Under held (answers_numbered c.args.issuer c.args.holder)) (ap (λ p. Some p) c.deref.ensures ∙ c.in-Some-take.ensures.policy)
    (subst (λ (said : Option Answers). Under (Some policy) said) c.in-Some.ensures
    (handed_verdict ((Some policy ≡ None) ⊎ (Some answers ≡ None)) (both_there policy answers) (λ told. JudgesUnder policy algs token now answers told) c.args.room.now c.hand_verdict.new.room c.hand_verdict.new.len c.hand_verdict.result
    c.judge_under-verdict.result c.judge_under-verdict.ensures c.hand_verdict.ensures))
