use Rattle.std.proofs.Common.{◌≡◌, List, None, refl, sym, ap, subst}
use Rattle.std.proofs.lemmas.Bool.{false≢true}
use Rattle.claim_tree.specs.Tree.{Text, get}
use Rattle.sd_outside.specs.Lists.{StandsAt, IsLeast}
use Rattle.claim_tree.specs.View.{tree_of}
use Rattle.refusals.specs.declared.condition.Condition.{Condition}
use Rattle.refusals.specs.Lowest.{IsLowest}
use Rattle.verifier_core.specs.Verdict.{Demands, ClaimFails}
use Rattle.verifier_core.proofs.LeastPlaces.{refuse_placed}
use Rattle.verifier_core.proofs.ClaimSteps.{before_missing}
use Rattle.verifier_core.proofs.claims.check_claims.Goals as goal

pub returns-in-Some-clause-lowest : goal.returns-in-Some-clause-lowest
returns-in-Some-clause-lowest c =
    let payload = tree_of c.args.payload.now in
    let demands = c.args.demands.now in
    let issuer = before_missing payload demands c.args.now (λ h. false≢true (c.if-is_issuer_refused.ensures.1 h)) in
    subst (IsLowest (ClaimFails payload demands c.args.now)) (sym c.fault_at.ensures)
    (refuse_placed (ClaimFails payload demands c.args.now) Condition.ClaimMissing _ c.in-Some.i (λ place h. h) (λ h. (c.in-Some.i, refl, h)) issuer
    (subst (λ (names : List Text). IsLeast (λ i. (name : Text) × StandsAt names i name × (get payload name ≡ None)) c.in-Some.i) (ap (λ (d : Demands). d.require) c.demands.view_is) c.in-Some.ensures.first))
