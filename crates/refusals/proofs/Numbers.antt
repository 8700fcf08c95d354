-- A fault is that of one condition at its place.
use Rattle.std.proofs.Common.{◌≡◌, ℕ, refl, ap, sym, ◌∙◌}
use Rattle.std.proofs.Math.Path.{path_j'}
use Rattle.refusals.specs.declared.fault.Fault.{Fault}
use Rattle.refusals.specs.Condition.{number_of}
use Rattle.refusals.specs.Numbered.{one_condition}
use Rattle.refusals.specs.Faults.{fault_at, failed_of}

-- a fault is that of the condition that it names, at its place
pub fault_is : (fault : Fault) → fault ≡ fault_at (failed_of fault) fault.place
fault_is fault = path_j' made refl fault.of_condition.1
  where
    made : (n : ℕ) → n ≡ number_of (failed_of fault) → Type 0
    made n is = ◌≡◌ {A = Fault} (record { number = n; place = fault.place; of_condition = (failed_of fault, is) }) (fault_at (failed_of fault) fault.place)

-- a fault is its number and its place
pub same_fault : (f g : Fault) → f.number ≡ g.number → f.place ≡ g.place → f ≡ g
same_fault f g number place = fault_is f ∙ (ap (λ condition. fault_at condition f.place) one ∙ (ap (fault_at (failed_of g)) place ∙ sym (fault_is g)))
  where
    one : failed_of f ≡ failed_of g
    one = one_condition (failed_of f) (failed_of g) (sym f.of_condition.1 ∙ (number ∙ g.of_condition.1))
