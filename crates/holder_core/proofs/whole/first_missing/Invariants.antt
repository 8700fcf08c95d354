use Rattle.claim_tree.specs.View.{tree_of}
use Rattle.selection_core.proofs.Wanted.{NoneMissing}
use Rattle.holder_core.proofs.whole.first_missing.Given as goal

abbrev pub invariant-loop-k : goal.invariant-loop-k
invariant-loop-k l = NoneMissing (tree_of l.payload) l.path-items l.k
