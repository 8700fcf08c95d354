use Rattle.marked_tree.specs.View.{marked_of}
use Rattle.selection_core.proofs.PathWalks.{LeadsOn, ArePassed}
use Rattle.selection_core.proofs.choosing.add_way.Given as goal

abbrev pub invariant-loop-at : goal.invariant-loop-at
invariant-loop-at l =
    LeadsOn (marked_of l.tree) l.path (marked_of l.inside) l.at-iterator.iter
    × ArePassed l.fn.marks.items (marked_of l.tree) l.path l.marks.items (marked_of l.inside) l.at-iterator.iter
