use Rattle.std.proofs.Common.{arith, below_more}
use Rattle.rebuild_core.proofs.Worklist.{clear_at, set_is_not_clear}
use Rattle.rebuild_core.proofs.graph.first_clear.Goals as goal

pub returns-then-not-flag : goal.returns-then-not-flag
returns-then-not-flag c =
    record { fails = clear_at c.args.flags.now c.loop-i.i _ c.loop-i-test.true c.if-not-flag.true; first = c.loop-i.invariant }

pub loop-i-preserved : goal.loop-i-preserved
loop-i-preserved c = below_more _ _ c.loop-i.invariant (set_is_not_clear c.args.flags.now c.loop-i.i _ c.if-not-flag.false)

pub returns : goal.returns
returns c = λ k f. c.loop-i.invariant k (omega (arith, f.0, c.loop-i-test.false)) f
