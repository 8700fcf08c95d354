-- The fault that names a condition and its place, and the condition that a fault names.
use Rattle.std.specs.Prelude.{ℕ, refl}
use Rattle.refusals.specs.declared.condition.Condition.{Condition}
use Rattle.refusals.specs.declared.fault.Fault.{Fault}
use Rattle.refusals.specs.declared.fault.Place.{Place}
use Rattle.refusals.specs.declared.fault.Place.TheVariants.{Nowhere, At}
use Rattle.refusals.specs.Condition.{number_of}

abbrev pub fault_number : Fault → ℕ
fault_number fault = fault.number

-- the fault of a condition at this place
abbrev pub fault_at : Condition → Place → Fault
fault_at condition place =
    record { number = number_of condition; place = place; of_condition = (condition, refl) }

-- the fault of a condition without a place
abbrev pub unplaced : Condition → Fault
unplaced condition = fault_at condition Nowhere

-- the fault of a condition at a position, counted from 0
abbrev pub placed : Condition → ℕ → Fault
placed condition i = fault_at condition (At i)

-- the condition that the fault names; every fault has one, by its type
abbrev pub failed_of : Fault → Condition
failed_of fault = fault.of_condition.0
