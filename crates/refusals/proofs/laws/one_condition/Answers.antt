use Rattle.refusals.specs.Numbered.{one_condition}
use Rattle.refusals.proofs.Numbers.{fault_is}
use Rattle.refusals.proofs.laws.one_condition.Goals as goal

pub returns : goal.returns
returns c = record { one = one_condition; fault = fault_is }
