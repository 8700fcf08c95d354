-- Under the policy that the handle held.
use Rattle.std.proofs.Common.{◌≡◌, Option, None, Some, ap, ◌∙◌, subst}
use Rattle.std.specs.Prelude.{IsSomeAnd}
use Rattle.verifier_core.specs.declared.policy.Policy.{Policy}
use Rattle.sdjwt_c.specs.Handed.{HandsBy}
use Rattle.sdjwt_c.specs.Policies.{UnderAnswers}
use Rattle.sdjwt_c.proofs.Handing.{handed}
use Rattle.sdjwt_c.proofs.policy.sdjwt_policy_verify.Goals as goal

pub returns-clause-answers : goal.returns-clause-answers
returns-clause-answers c =
    let token = c.args.token.now in let now = c.args.now in let policy = c.deref.result.now in
    let Under : Option Policy → Type 0 = λ held. HandsBy (held ≡ None) (λ reply. IsSomeAnd held (λ policy. UnderAnswers policy token now reply)) c.args.room.now c.hand.new.room c.hand.new.len c.number-2.result in
    subst Under (ap (λ p. Some p) c.deref.ensures ∙ c.in-Some.ensures.policy)
    (handed (Some policy ≡ None) (λ none. absurd (cc none)) (λ reply. UnderAnswers policy token now reply) c.args.room.now c.hand.new.room c.hand.new.len c.number-2.result c.hand.result c.number-2.ensures c.verify_under-answer.result
    c.verify_under-answer.ensures.verifies c.verify_under-answer.ensures.refuses c.verify_under-answer.ensures.readable c.verify_under-answer.ensures.read c.hand.ensures)
