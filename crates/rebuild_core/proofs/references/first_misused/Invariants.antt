use Rattle.std.proofs.Common.{ℕ, ◌≤◌}
use Rattle.claim_tree.specs.View.{tree_of}
use Rattle.rebuild_core.specs.Payload.{without_alg}
use Rattle.rebuild_core.specs.Conditions.{Misused}
use Rattle.rebuild_core.proofs.references.first_misused.Given as goal

abbrev pub invariant-loop-i : goal.invariant-loop-i
invariant-loop-i l = (q : ℕ) → q ≤ l.i → Misused (without_alg (tree_of l.payload)) l.given q → ⊥
