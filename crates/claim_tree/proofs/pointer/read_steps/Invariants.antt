use Rattle.claim_tree.proofs.PointerPieces.{StepsSoFar}
use Rattle.claim_tree.proofs.pointer.read_steps.Given as goal

abbrev pub invariant-loop-step : goal.invariant-loop-step
invariant-loop-step l = StepsSoFar l.text l.path l.step-iterator
