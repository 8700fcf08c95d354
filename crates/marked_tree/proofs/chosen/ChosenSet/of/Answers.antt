use Rattle.std.proofs.Common.{ℕ, List, eqb, ap, sym, ◌∙◌}
use Rattle.std.proofs.lemmas.List.Sorted.{list_any-IsPermutation}
use Rattle.marked_tree.specs.Numbers.{has}
use Rattle.marked_tree.proofs.chosen.ChosenSet.of.Goals as goal

pub loop-mark-init : goal.loop-mark-init
loop-mark-init c i =
    let sorted = c.sort_unstable.new.self.items in
    let same = sym (list_any-IsPermutation (eqb i) c.args.marks.items sorted c.sort_unstable.ensures.permutation) in
    rw c.new-set.ensures (ap (λ (ns : List ℕ). has ns i) c.into_iter-mark-iterator.ensures.into_iter_gives.0 ∙ same)
