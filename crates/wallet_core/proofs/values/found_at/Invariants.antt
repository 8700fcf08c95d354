use Rattle.marked_tree.specs.View.{marked_of}
use Rattle.selection_core.proofs.PathWalks.{LeadsOn}
use Rattle.wallet_core.proofs.values.found_at.Given as goal

abbrev pub invariant-loop-step : goal.invariant-loop-step
invariant-loop-step l = LeadsOn (marked_of l.tree) l.at (marked_of l.inside) l.step-iterator
