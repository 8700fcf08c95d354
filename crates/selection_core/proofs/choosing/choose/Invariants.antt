use Rattle.std.proofs.Common.{drop}
use Rattle.marked_tree.specs.Marked.{strip}
use Rattle.marked_tree.specs.View.{marked_of}
use Rattle.selection_core.proofs.Wanted.{AreGathered, NoneMissing}
use Rattle.selection_core.proofs.choosing.choose.Given as goal

abbrev pub invariant-loop-k : goal.invariant-loop-k
invariant-loop-k l =
    AreGathered (marked_of l.tree) l.path-items l.marks.items (drop l.k l.path-items)
    × NoneMissing (strip (marked_of l.tree)) l.path-items l.k
