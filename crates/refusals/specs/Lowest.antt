-- The lowest of what applies; what fails a condition, at which place, and the
-- lowest condition that fails.
use Rattle.std.specs.Prelude.{◌≡◌, ℕ, ◌<◌, ◌≤◌, ◌⊎◌}
use Rattle.refusals.specs.declared.fault.Fault.{Fault}
use Rattle.refusals.specs.declared.fault.Place.{Place}
use Rattle.refusals.specs.declared.fault.Place.TheVariants.{Nowhere, At}
use Rattle.refusals.specs.declared.condition.Condition.{Condition}
use Rattle.refusals.specs.Condition.{number_of}
use Rattle.refusals.specs.Faults.{failed_of}

-- it applies, and none that applies has a lower rank
pub record IsLowestBy {X : Type 0} (rank : X → ℕ) (Applies : X → Type 0) (x : X) : Type 0 where
  pub applies : Applies x
  pub lowest : (other : X) → Applies other → rank x ≤ rank other

abbrev pub NoneApplies : {X : Type 0} → (X → Type 0) → Type 0
NoneApplies {X} Applies = (x : X) → Applies x → ⊥

-- ---- conditions

-- the condition names no place
abbrev pub Unplaced : Type 0 → Place → Type 0
Unplaced IsFailed place = (place ≡ Nowhere) × IsFailed

-- the condition fails at a number
abbrev pub Numbered : (ℕ → Type 0) → Place → Type 0
Numbered FailsAt place = (i : ℕ) × (place ≡ At i) × FailsAt i

-- places of one condition, in their order
abbrev pub IsNoLater : Place → Place → Type 0
IsNoLater (At i) (At j) = i ≤ j
IsNoLater _ _ = Unit {0}

-- the condition that the fault names fails, at its least place, and none lower
pub record IsLowest (FailsSo : Condition → Place → Type 0) (fault : Fault) : Type 0 where
  pub fails : FailsSo (failed_of fault) fault.place
  pub lowest : (other : Condition) (place : Place) → FailsSo other place
      → (fault.number < number_of other) ⊎ ((other ≡ failed_of fault) × IsNoLater fault.place place)

abbrev pub NoneFails : (Condition → Place → Type 0) → Type 0
NoneFails FailsSo = (c : Condition) (place : Place) → FailsSo c place → ⊥
