use Rattle.std.proofs.Common.{not, bytes_eq, refl, ap, ◌∙◌}
use Rattle.refusals.specs.declared.condition.Condition.{Condition}
use Rattle.key_binding.specs.JudgedSteps.{judged_of}
use Rattle.key_binding.specs.Read.{claims_of}
use Rattle.key_binding.proofs.BindingSteps.{refuse, at34, at35, at36, at37}
use Rattle.key_binding.proofs.BindingTests.{told_same, told_other, no_truth}
use Rattle.key_binding.proofs.judging.check_claims.Goals as goal

pub returns-then-is_stale-clause-refused : goal.returns-then-is_stale-clause-refused
returns-then-is_stale-clause-refused c =
    let j = judged_of c.args.bound in
    refuse j Condition.BindingStale c.requires.below (refl, (claims_of c.args.claims, c.requires.read, c.is_stale.ensures.0 c.if-is_stale.true))

pub returns-then-is_early-clause-refused : goal.returns-then-is_early-clause-refused
returns-then-is_early-clause-refused c =
    let j = judged_of c.args.bound in
    let claims = claims_of c.args.claims in
    let fresh = at34 j c.requires.below claims c.requires.read (λ stale. no_truth _ c.if-is_stale.false (c.is_stale.ensures.1 stale)) in
    refuse j Condition.BindingEarly fresh (refl, (claims, c.requires.read, c.is_early.ensures.0 c.if-is_early.true))

pub returns-then-ne-clause-refused : goal.returns-then-ne-clause-refused
returns-then-ne-clause-refused c =
    let j = judged_of c.args.bound in
    let claims = claims_of c.args.claims in
    let fresh = at34 j c.requires.below claims c.requires.read (λ stale. no_truth _ c.if-is_stale.false (c.is_stale.ensures.1 stale)) in
    let made = at35 j fresh claims c.requires.read (λ early. no_truth _ c.if-is_early.false (c.is_early.ensures.1 early)) in
    refuse j Condition.NonceDiffers made
    (refl, (claims, c.requires.read, told_other claims.nonce j.rules.nonce c.ne.result (c.ne.ensures ∙ ap (λ t. not (bytes_eq claims.nonce t)) c.as_str.ensures) c.if-ne.true))

pub returns-then-not-contains-clause-refused : goal.returns-then-not-contains-clause-refused
returns-then-not-contains-clause-refused c =
    let j = judged_of c.args.bound in
    let claims = claims_of c.args.claims in
    let fresh = at34 j c.requires.below claims c.requires.read (λ stale. no_truth _ c.if-is_stale.false (c.is_stale.ensures.1 stale)) in
    let made = at35 j fresh claims c.requires.read (λ early. no_truth _ c.if-is_early.false (c.is_early.ensures.1 early)) in
    let nonces = told_same claims.nonce j.rules.nonce c.ne.result (c.ne.ensures ∙ ap (λ t. not (bytes_eq claims.nonce t)) c.as_str.ensures) c.if-ne.false in
    refuse j Condition.AudienceDiffers (at36 j made claims c.requires.read nonces)
    (refl, (claims, c.requires.read, λ among. no_truth _ c.if-not-contains.true (c.contains.ensures.1 among)))

pub returns-clause-ok : goal.returns-clause-ok
returns-clause-ok c =
    let j = judged_of c.args.bound in
    let claims = claims_of c.args.claims in
    let fresh = at34 j c.requires.below claims c.requires.read (λ stale. no_truth _ c.if-is_stale.false (c.is_stale.ensures.1 stale)) in
    let made = at35 j fresh claims c.requires.read (λ early. no_truth _ c.if-is_early.false (c.is_early.ensures.1 early)) in
    let nonces = told_same claims.nonce j.rules.nonce c.ne.result (c.ne.ensures ∙ ap (λ t. not (bytes_eq claims.nonce t)) c.as_str.ensures) c.if-ne.false in
    at37 j (at36 j made claims c.requires.read nonces) claims c.requires.read (c.contains.ensures.0 c.if-not-contains.false)
