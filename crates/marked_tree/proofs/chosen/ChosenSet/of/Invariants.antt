use Rattle.std.proofs.Common.{◌≡◌, ℕ, ◌||◌}
use Rattle.std.specs.Vec.Iter.{into_iter_items}
use Rattle.marked_tree.specs.Numbers.{has}
use Rattle.marked_tree.proofs.chosen.ChosenSet.of.Given as goal

abbrev pub invariant-loop-mark : goal.invariant-loop-mark
invariant-loop-mark l = (i : ℕ) → (has l.set i || has (into_iter_items l.mark-iterator) i) ≡ has l.fn.marks.items i
