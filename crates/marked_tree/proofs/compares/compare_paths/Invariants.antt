use Rattle.std.proofs.Common.{◌≡◌}
use Rattle.marked_tree.specs.Rests.{path_order}
use Rattle.marked_tree.proofs.compares.compare_paths.Given as goal

abbrev pub invariant-loop-step : goal.invariant-loop-step
invariant-loop-step l = path_order l.step-iterator l.others ≡ path_order l.one l.other
