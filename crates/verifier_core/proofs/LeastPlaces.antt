-- The least place of a condition that fails at numbers.
use Rattle.std.proofs.Common.{ℕ, sym, subst}
use Rattle.refusals.specs.declared.fault.Place.{Place}
use Rattle.refusals.specs.declared.fault.Place.TheVariants.{At}
use Rattle.refusals.specs.declared.condition.Condition.{Condition}
use Rattle.refusals.specs.Condition.{number_of}
use Rattle.refusals.specs.Lowest.{Numbered, IsNoLater, IsLowest}
use Rattle.refusals.specs.Faults.{placed}
use Rattle.refusals.specs.Passing.{Passes}
use Rattle.refusals.proofs.Lowest.{lowest_at}
use Rattle.sd_outside.specs.Lists.{IsLeast}
use Rattle.claim_tree.proofs.Counting.{not_below}

-- a least number is the least place
pub first_numbered : (FailsAt : ℕ → Type 0) (i : ℕ) → IsLeast FailsAt i → (place : Place) → Numbered FailsAt place → IsNoLater (At i) place
first_numbered FailsAt i least place h = subst (λ p. IsNoLater (At i) p) (sym h.1) (not_below i h.0 (λ less. least.first h.0 less h.2))

-- a condition at its least place
pub refuse_placed : (FailsSo : Condition → Place → Type 0) (d : Condition) (FailsAt : ℕ → Type 0) (i : ℕ)
    → ((place : Place) → FailsSo d place → Numbered FailsAt place) → (FailsAt i → FailsSo d (At i)) → Passes (number_of d) FailsSo → IsLeast FailsAt i → IsLowest FailsSo (placed d i)
refuse_placed FailsSo d FailsAt i into back passes least =
    lowest_at FailsSo (placed d i) passes (back least.fails) (λ place h. first_numbered FailsAt i least place (into place h))
