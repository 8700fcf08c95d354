use Rattle.std.proofs.Common.{◌≡◌, ◌∷◌, subst}
use Rattle.claim_tree.specs.Steps.{AreEnds}
use Rattle.claim_tree.proofs.PathSteps.{start_boundary}
use Rattle.claim_tree.proofs.path.StepsIterator.next.Goals as goal

pub range-step-requires-clause-end_boundary : goal.range-step-requires-clause-end_boundary
range-step-requires-clause-end_boundary c =
    let cut : c.self.inside.ends.now ≡ c.in_ok-end.end.now ∷ c.in_ok-end.ends.now = c.in_ok-end.ensures.cases.0 in
    let are : AreEnds c.self.inside.start (c.in_ok-end.end.now ∷ c.in_ok-end.ends.now) c.self.inside.text.now = subst (λ ends. AreEnds c.self.inside.start ends c.self.inside.text.now) cut c.self.invariant in
    start_boundary c.in_ok-end.end.now c.in_ok-end.ends.now c.self.inside.text.now are.2
