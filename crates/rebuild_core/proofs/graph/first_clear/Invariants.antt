use Rattle.std.proofs.Common.{ℕ, ◌<◌}
use Rattle.rebuild_core.specs.Graph.{IsClear}
use Rattle.rebuild_core.proofs.graph.first_clear.Given as goal

abbrev pub invariant-loop-i : goal.invariant-loop-i
invariant-loop-i l = (k : ℕ) → k < l.i → IsClear l.flags k → ⊥
