use Rattle.std.proofs.Common.{length, sym, ◌∙◌}
use Rattle.rebuild_core.specs.Graph.{rows_in}
use Rattle.rebuild_core.proofs.Cuts.{later_row, length-rows_in}
use Rattle.rebuild_core.proofs.MetNumbers.{taken_step, passed_step}
use Rattle.rebuild_core.proofs.graph.met_numbers.Goals as goal
use Rattle.rebuild_core.proofs.graph.met_numbers.Goals.{then-flag+in_ok-extend_from_slice-2, else-flag}

pub loop-k-preserved : goal.loop-k-preserved
loop-k-preserved c =
    let ends = c.args.graph.now.ends.items in
    let ks = c.args.graph.now.numbers.items in
    let rows = rows_in ends ks in
    let fs = c.args.flags.now in
    let k = c.loop-k.k in
    let many = sym (length-rows_in ends ks (length fs) c.requires.flags) in
    elim c.if-flag.branch [
      | then-flag+in_ok-extend_from_slice-2 w ↦
          rw w.met-is (rw w.in_ok-extend_from_slice-2.ensures.items (taken_step fs rows k w.row-then-flag.result.now c.loop-k.met.items _ _ many c.loop-k-test.true (w.row-then-flag.ensures ∙ later_row ends ks (length fs) k c.requires.flags) w.if-flag.true c.loop-k.invariant))
      | else-flag w ↦
          rw w.met-is (passed_step fs rows k c.loop-k.met.items _ _ many c.loop-k-test.true w.if-flag.false c.loop-k.invariant)
    ]
