use Rattle.std.proofs.Common.{◌-◌, ◌≤◌, length}
use Rattle.rebuild_core.specs.Graph.{roots_in, rows_in}
use Rattle.rebuild_core.proofs.Worklist.{Fits}
use Rattle.rebuild_core.proofs.graph.reach.Given as goal

abbrev pub invariant-loop-head : goal.invariant-loop-head
invariant-loop-head l =
    Fits l.count (roots_in l.graph.ends.items l.graph.numbers.items) (rows_in l.graph.ends.items l.graph.numbers.items) l.head (l.flags.items, l.order.items)
    × (l.head ≤ length l.order.items)

abbrev pub decreases-loop-head : goal.decreases-loop-head
decreases-loop-head l = l.count - l.head
