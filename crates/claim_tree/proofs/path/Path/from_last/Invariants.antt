use Rattle.std.proofs.Common.{◌≡◌, ◌++◌, reverse}
use Rattle.claim_tree.proofs.path.Path.from_last.Given as goal

abbrev pub invariant-loop-step : goal.invariant-loop-step
invariant-loop-step l = l.path ++ reverse l.step-iterator.iter.rest.now ≡ reverse l.steps
