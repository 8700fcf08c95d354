-- The worklist keeps what the rounds ask.
use Rattle.std.proofs.Common.{◌∙◌, arith}
use Rattle.rebuild_core.specs.Graph.{roots_in, rows_in}
use Rattle.rebuild_core.proofs.Cuts.{first_row, later_row, length-rows_in}
use Rattle.rebuild_core.proofs.Worklist.{reach_start, reach_step, order_below, short_order, exact}
use Rattle.rebuild_core.proofs.graph.reach.Goals as goal

pub loop-head-init : goal.loop-head-init
loop-head-init c =
    let ends = c.args.graph.now.ends.items in
    let ks = c.args.graph.now.numbers.items in
    let row = c.row.ensures ∙ first_row ends ks c.args.count c.requires.count in (
      reach_start c.args.count (roots_in ends ks) (rows_in ends ks) c.in_ok-flags.flags.items c.mark_row.new.flags.items c.in_ok-order.order.items c.mark_row.new.order.items
          c.in_ok-flags.ensures c.in_ok-order.ensures.items (rw row at c.in_ok-mark_row.ensures.flags) (rw row at c.in_ok-mark_row.ensures.order),
      omega arith,
    )

pub overflow_add-k : goal.overflow_add-k
overflow_add-k c =
    let ends = c.args.graph.now.ends.items in
    let ks = c.args.graph.now.numbers.items in
    let few = order_below c.args.count (roots_in ends ks) (rows_in ends ks) c.loop-head.head c.loop-head.flags.items c.loop-head.order.items c.loop-head.head c.index-k.result.now c.loop-head.invariant.0 (omega (arith, c.loop-head-test.true, c.len.ensures)) c.index-k.ensures in
    omega (arith, few, c.ranges.count.fits)

pub row-requires-in-loop-head-clause-tree : goal.row-requires-in-loop-head-clause-tree
row-requires-in-loop-head-clause-tree c =
    let ends = c.args.graph.now.ends.items in
    let ks = c.args.graph.now.numbers.items in
    let few = order_below c.args.count (roots_in ends ks) (rows_in ends ks) c.loop-head.head c.loop-head.flags.items c.loop-head.order.items c.loop-head.head c.index-k.result.now c.loop-head.invariant.0 (omega (arith, c.loop-head-test.true, c.len.ensures)) c.index-k.ensures in
    omega (arith, few, c.requires.count)

pub loop-head-smaller : goal.loop-head-smaller
loop-head-smaller c =
    let ends = c.args.graph.now.ends.items in
    let ks = c.args.graph.now.numbers.items in
    let s = short_order c.args.count (roots_in ends ks) (rows_in ends ks) c.loop-head.head (c.loop-head.flags.items, c.loop-head.order.items) c.loop-head.invariant.0 in
    omega (arith, s, c.loop-head-test.true, c.len.ensures)

pub loop-head-preserved : goal.loop-head-preserved
loop-head-preserved c =
    let ends = c.args.graph.now.ends.items in
    let ks = c.args.graph.now.numbers.items in
    reach_step c.args.count (roots_in ends ks) (rows_in ends ks) c.loop-head.head c.index-k.result.now c.row-in-loop-head.result.now c.loop-head.flags.items c.mark_row-in-loop-head.new.flags.items c.loop-head.order.items c.mark_row-in-loop-head.new.order.items
    c.loop-head.invariant.0 (length-rows_in ends ks c.args.count c.requires.count) (omega (arith, c.loop-head-test.true, c.len.ensures)) c.index-k.ensures
    (c.row-in-loop-head.ensures ∙ later_row ends ks c.args.count c.index-k.result.now c.requires.count) c.in_ok-mark_row-2.ensures.flags c.in_ok-mark_row-2.ensures.order

pub returns-clause-exact : goal.returns-clause-exact
returns-clause-exact c =
    let ends = c.args.graph.now.ends.items in
    let ks = c.args.graph.now.numbers.items in
    exact c.args.count (roots_in ends ks) (rows_in ends ks) c.loop-head.head (c.loop-head.flags.items, c.loop-head.order.items) c.loop-head.invariant.0
    (omega (arith, c.loop-head-test.false, c.len.ensures)) (length-rows_in ends ks c.args.count c.requires.count)
