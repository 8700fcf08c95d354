use Rattle.std.proofs.Common.{take}
use Rattle.marked_tree.specs.Marked.{strip}
use Rattle.marked_tree.specs.View.{marked_of}
use Rattle.wallet_core.specs.Meets.{HasValues}
use Rattle.wallet_core.proofs.values.has_values.Given as goal

abbrev pub invariant-loop-one : goal.invariant-loop-one
invariant-loop-one l = HasValues (strip (marked_of l.tree)) (take l.one-index l.one-items)
