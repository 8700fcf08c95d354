use Rattle.std.proofs.Common.{subst}
use Rattle.claim_tree.specs.View.{tree_of}
use Rattle.refusals.specs.declared.condition.Condition.{Condition}
use Rattle.compact_form.specs.declared.parts.JwtParts.{JwtParts}
use Rattle.compact_form.specs.Views.{jwt_of}
use Rattle.key_binding.specs.declared.errors.BoundError.{BoundError}
use Rattle.key_binding.specs.Judged.{judged, BindingRules, binding_rules}
use Rattle.key_binding.specs.JudgedSteps.{rules_seen}
use Rattle.key_binding.specs.BindingCalls.{IsLowestBinding, OnBoundFails}
use Rattle.key_binding.proofs.judging.check_binding.Goals as goal

pub returns-clause-refused : goal.returns-clause-refused
returns-clause-refused c =
    let a = c.args in
    let Lowest : JwtParts → BindingRules → Condition → Type 0 = λ token rules. IsLowestBinding (judged token (tree_of a.payload.now) rules a.skew a.hash a.hashed.now a.now) in
    let lowest = subst (λ (e : BoundError). OnBoundFails e (Lowest (jwt_of c.view.result) (rules_seen c.rules.result))) c.in-Err-Fails.field-0-is c.in-Err-Fails.ensures.refused in
    let of_policy = subst (λ (rules : BindingRules). Lowest (jwt_of c.view.result) rules c.in-Err-Fails.condition) c.rules.ensures lowest in
    (c.in-Err-Fails.condition, c.number.ensures, subst (λ (token : JwtParts). Lowest token (binding_rules a.policy.now) c.in-Err-Fails.condition) c.view.ensures of_policy)
