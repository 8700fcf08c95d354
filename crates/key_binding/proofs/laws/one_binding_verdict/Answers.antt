use Rattle.std.proofs.Common.{arith}
use Rattle.refusals.specs.Faults.{unplaced}
use Rattle.refusals.specs.Numbered.{one_condition}
use Rattle.refusals.proofs.Lowest.{one_number}
use Rattle.key_binding.specs.BindingConditions.{BindingFails}
use Rattle.key_binding.proofs.BindingSteps.{binding_numbers}
use Rattle.key_binding.proofs.laws.one_binding_verdict.Goals as goal

pub returns : goal.returns
returns c = record {
  not_both = λ j condition none lowest. none condition _ lowest.fails;
  one_fault = λ j condition other l m. one_condition condition other (one_number (BindingFails j) (unplaced condition) (unplaced other) l m);
  from_27 = λ j condition lowest. let n = binding_numbers j condition _ lowest.fails in (omega (arith, n.0), omega (arith, n.1));
}
