use Rattle.std.proofs.Common.{◌≡◌, drop}
use Rattle.rebuild_core.specs.Graph.{mark_all}
use Rattle.rebuild_core.proofs.graph.mark_row.Given as goal

abbrev pub invariant-loop-k : goal.invariant-loop-k
invariant-loop-k l =
    ((mark_all (drop l.k-index l.row) (l.flags.items, l.order.items)).0 ≡ (mark_all l.row (l.fn.flags.items, l.fn.order.items)).0)
    × ((mark_all (drop l.k-index l.row) (l.flags.items, l.order.items)).1 ≡ (mark_all l.row (l.fn.flags.items, l.fn.order.items)).1)
