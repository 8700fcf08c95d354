use Rattle.std.proofs.Common.{◌≡◌, drop}
use Rattle.claim_tree.specs.Path.{tree_at}
use Rattle.claim_tree.specs.View.{tree_of}
use Rattle.claim_tree.proofs.inside.find_behind.Given as goal

abbrev pub invariant-loop-step : goal.invariant-loop-step
invariant-loop-step l = tree_at (tree_of l.found) l.step-iterator ≡ tree_at (tree_of l.tree) (drop l.count l.path)
