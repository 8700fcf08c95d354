use Rattle.std.proofs.Common.{◌+◌, sym, ap, ◌∙◌, length, subst, take}
use Rattle.marked_tree.specs.Paths.{is_among}
use Rattle.marked_tree.specs.Rests.{rests, AreSorted}
use Rattle.marked_tree.proofs.PathOrder.{rest_whole, run_sorted, run_below, run_count}
use Rattle.marked_tree.proofs.marking.PathsBelow.below.Goals as goal

pub returns-clause-sorted : goal.returns-clause-sorted
returns-clause-sorted c =
    let xs = c.args.self.now.sorted.now in
    let r = c.run_near-start.result in
    subst (λ ys. AreSorted (rests (c.args.self.now.depth + 1) (take r.1 ys))) (sym (rest_whole xs r.0)) (run_sorted c.args.self.now.depth c.args.step.now xs r.0 r.1 c.run_near-start.ensures c.requires.sorted)

pub returns-clause-below : goal.returns-clause-below
returns-clause-below c p =
    let xs = c.args.self.now.sorted.now in
    let r = c.run_near-start.result in
    ap (λ ys. is_among (rests (c.args.self.now.depth + 1) (take r.1 ys)) p) (rest_whole xs r.0) ∙ run_below c.args.self.now.depth c.args.step.now xs r.0 r.1 c.run_near-start.ensures p

pub returns-clause-count : goal.returns-clause-count
returns-clause-count c =
    let xs = c.args.self.now.sorted.now in
    let r = c.run_near-start.result in
    ap (λ ys. length (take r.1 ys)) (rest_whole xs r.0) ∙ run_count c.args.self.now.depth c.args.step.now xs r.0 r.1 c.run_near-start.ensures
