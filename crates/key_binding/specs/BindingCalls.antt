-- Not needed to believe the program's promises: what the check of a key binding token answers.
use Rattle.std.specs.Prelude.{◌≡◌, ℕ}
use Rattle.refusals.specs.declared.condition.Condition.{Condition}
use Rattle.refusals.specs.Condition.{number_of}
use Rattle.refusals.specs.Faults.{unplaced}
use Rattle.refusals.specs.Lowest.{IsLowest}
use Rattle.key_binding.specs.declared.errors.BindingError.{BindingError}
use Rattle.key_binding.specs.declared.errors.BoundError.{BoundError}
use Rattle.key_binding.specs.Judged.{Judged}
use Rattle.key_binding.specs.BindingConditions.{BindingFails}

-- the condition is the lowest that fails
abbrev pub IsLowestBinding : Judged → Condition → Type 0
IsLowestBinding j condition = IsLowest (BindingFails j) (unplaced condition)

-- the number is that of such a condition
abbrev pub IsNumberOf : (Condition → Type 0) → ℕ → Type 0
IsNumberOf P number = (condition : Condition) × (number ≡ number_of condition) × P condition

-- the condition that is answered, where memory did not end
abbrev pub OnBoundFails : BoundError → (Condition → Type 0) → Type 0
OnBoundFails BoundError.Memory P = Unit {0}
OnBoundFails (BoundError.Fails condition) P = P condition

-- the number that is answered, where memory did not end
abbrev pub OnBindingFault : BindingError → (ℕ → Type 0) → Type 0
OnBindingFault BindingError.Memory P = Unit {0}
OnBindingFault (BindingError.Fault number) P = P number
