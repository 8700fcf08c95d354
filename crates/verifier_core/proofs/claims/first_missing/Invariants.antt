use Rattle.claim_tree.specs.View.{tree_of}
use Rattle.verifier_core.proofs.ClaimSteps.{HasFirst}
use Rattle.verifier_core.proofs.claims.first_missing.Given as goal

abbrev pub invariant-loop-i : goal.invariant-loop-i
invariant-loop-i l = HasFirst (tree_of l.payload) l.names l.i
