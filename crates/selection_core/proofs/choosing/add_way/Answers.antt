use Rattle.std.proofs.Common.{◌≡◌, [], rules, subst}
use Rattle.marked_tree.specs.Paths.{Path}
use Rattle.marked_tree.specs.View.{marked_of}
use Rattle.selection_core.proofs.PathWalks.{ArePassed, passed_all}
use Rattle.selection_core.proofs.choosing.add_way.Goals as goal

pub returns-clause-marks : goal.returns-clause-marks
returns-clause-marks c there =
    let m = marked_of c.args.tree.now in
    let inside = marked_of c.loop-at.inside.now in
    let none : c.loop-at.at-iterator.iter ≡ [] = search rules in
    passed_all c.args.marks.now.items c.loop-at.marks.items m c.args.path.now inside
    (subst (λ (p : Path). ArePassed c.args.marks.now.items m c.args.path.now c.loop-at.marks.items inside p) none c.loop-at.invariant.1)
