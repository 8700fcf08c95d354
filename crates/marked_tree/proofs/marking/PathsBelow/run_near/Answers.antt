use Rattle.std.proofs.Common.{sym, subst}
use Rattle.marked_tree.specs.Rests.{rests, AreSorted}
use Rattle.marked_tree.proofs.PathOrder.{rest_whole, sorted_drop}
use Rattle.marked_tree.proofs.marking.PathsBelow.run_near.Goals as goal

pub count_same-requires-clause-sorted : goal.count_same-requires-clause-sorted
count_same-requires-clause-sorted c =
    let xs = c.args.self.now.sorted.now in
    let start = c.start_near-start.result in
    subst (λ ys. AreSorted (rests c.args.self.now.depth ys)) (sym (rest_whole xs start)) (sorted_drop c.args.self.now.depth start xs c.requires.sorted)
