use Rattle.std.proofs.Common.{◌≡◌, ◌++◌, drop}
use Rattle.rebuild_core.specs.Graph.{roots_in, rows_in, flagged_rows}
use Rattle.rebuild_core.proofs.graph.met_numbers.Given as goal

abbrev pub invariant-loop-k : goal.invariant-loop-k
invariant-loop-k l =
    let rows = rows_in l.graph.ends.items l.graph.numbers.items in
    l.met.items ++ flagged_rows (drop l.k l.flags) (drop l.k rows) ≡ roots_in l.graph.ends.items l.graph.numbers.items ++ flagged_rows l.flags rows
