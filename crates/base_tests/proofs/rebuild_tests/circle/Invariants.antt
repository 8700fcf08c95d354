use Rattle.std.proofs.Common.{◌<◌, ◌-◌, ◌^◌, length}
use Rattle.rebuild_core.specs.Answer.{ValuesShallow}
use Rattle.base_tests.proofs.rebuild_tests.circle.Given as goal

abbrev pub invariant-loop-i : goal.invariant-loop-i
invariant-loop-i l = ValuesShallow l.list × (length l.list < 2 ^ 32 - 1)
