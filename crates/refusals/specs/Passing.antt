-- Not needed to believe the program's promises: conditions that do not fail.
use Rattle.std.specs.Prelude.{ℕ, ◌≤◌}
use Rattle.refusals.specs.declared.fault.Place.{Place}
use Rattle.refusals.specs.declared.condition.Condition.{Condition}
use Rattle.refusals.specs.Condition.{number_of}

-- none with a lower number fails
abbrev pub Passes : ℕ → (Condition → Place → Type 0) → Type 0
Passes k FailsSo = (c : Condition) (place : Place) → FailsSo c place → k ≤ number_of c
