use Rattle.std.proofs.Common.{refl}
use Rattle.claim_tree.specs.View.{tree_of}
use Rattle.refusals.specs.declared.condition.Condition.{Condition}
use Rattle.key_binding.specs.Judged.{HasClaims}
use Rattle.key_binding.specs.JudgedSteps.{judged_of}
use Rattle.key_binding.specs.Read.{claims_of}
use Rattle.key_binding.proofs.BindingSteps.{refuse, refuse_unsaid, at33, at38, finish}
use Rattle.key_binding.proofs.BindingTests.{no_truth}
use Rattle.key_binding.proofs.judging.check_body.Goals as goal

pub returns-in_default-clause-refused : goal.returns-in_default-clause-refused
returns-in_default-clause-refused c = refuse_unsaid (judged_of c.args.bound) c.requires.below (tree_of c.args.body.now) c.requires.read c.in_default.ensures.none

pub check_claims-requires-clause-below : goal.check_claims-requires-clause-below
check_claims-requires-clause-below c =
    at33 (judged_of c.args.bound) c.requires.below (claims_of c.in-Some.claims) (record { body = tree_of c.args.body.now; is_body = c.requires.read; says = c.in-Some.ensures.some })

pub returns-then-not-same-clause-refused : goal.returns-then-not-same-clause-refused
returns-then-not-same-clause-refused c =
    let j = judged_of c.args.bound in
    let claims = claims_of c.in-Some.claims in
    let read : HasClaims j.token claims = record { body = tree_of c.args.body.now; is_body = c.requires.read; says = c.in-Some.ensures.some } in
    refuse j Condition.HashDiffers c.in_default-check_claims.ensures.ok (refl, (claims, read, λ same. no_truth _ c.if-not-same.true (c.in-Ok.ensures.1 same)))

pub returns-then-is_time_refused-clause-refused : goal.returns-then-is_time_refused-clause-refused
returns-then-is_time_refused-clause-refused c =
    let j = judged_of c.args.bound in
    let claims = claims_of c.in-Some.claims in
    let read : HasClaims j.token claims = record { body = tree_of c.args.body.now; is_body = c.requires.read; says = c.in-Some.ensures.some } in
    refuse j Condition.BindingTime (at38 j c.in_default-check_claims.ensures.ok claims read (c.in-Ok.ensures.0 c.if-not-same.false)) (refl, (tree_of c.args.body.now, c.requires.read, c.is_time_refused.ensures.0 c.if-is_time_refused.true))

pub returns-clause-passes : goal.returns-clause-passes
returns-clause-passes c =
    let j = judged_of c.args.bound in
    let claims = claims_of c.in-Some.claims in
    let read : HasClaims j.token claims = record { body = tree_of c.args.body.now; is_body = c.requires.read; says = c.in-Some.ensures.some } in
    finish j (at38 j c.in_default-check_claims.ensures.ok claims read (c.in-Ok.ensures.0 c.if-not-same.false)) (tree_of c.args.body.now) c.requires.read (λ refused. no_truth _ c.if-is_time_refused.false (c.is_time_refused.ensures.1 refused))
