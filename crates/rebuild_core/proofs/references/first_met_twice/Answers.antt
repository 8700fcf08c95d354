use Rattle.std.proofs.Common.{◌≡◌, IfOk, subst, ◌∙◌}
use Rattle.std.specs.Prelude.{MatchOption}
use Rattle.sd_outside.specs.Lists.{In, AtNone, IsLeast, Repeats}
use Rattle.rebuild_core.specs.Met.{met_in}
use Rattle.rebuild_core.proofs.references.first_met_twice.Goals as goal

pub first_recurring-requires : goal.first_recurring-requires
first_recurring-requires c = λ k at. c.requires.below k (subst (In k) (c.as_slice.ensures.value ∙ c.in_ok-met.ensures) at)

pub returns : goal.returns
returns c =
    let met : c.as_slice.result.now ≡ met_in c.args.graph.now c.args.flags.now = c.as_slice.ensures.value ∙ c.in_ok-met.ensures in
    subst (λ ms. IfOk c.first_recurring.result (λ r. MatchOption r (AtNone (Repeats ms)) (λ place. IsLeast (Repeats ms) place))) met c.first_recurring.ensures
