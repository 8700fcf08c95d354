use Rattle.rebuild_core.proofs.MetNumbers.{IsSeen}
use Rattle.rebuild_core.proofs.graph.first_recurring.Given as goal

abbrev pub invariant-loop-place : goal.invariant-loop-place
invariant-loop-place l = IsSeen l.numbers l.count l.place l.seen.items
