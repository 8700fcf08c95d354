use Rattle.std.proofs.Common.{◌+◌, ◌-◌, sym, ap, subst, ◌∙◌, length, take, drop}
use Rattle.marked_tree.specs.Rests.{rests, AreSorted, IsRunOfPaths}
use Rattle.marked_tree.proofs.PathOrder.{rest_whole, run_sorted}
use Rattle.issuer_core.specs.Laying.{digests_on_path}
use Rattle.issuer_core.proofs.PlacedDecoys.{placed_below, whole_rest, run_length}
use Rattle.issuer_core.proofs.decoys.Decoys.search_below.Goals as goal

pub returns-clause-placed : goal.returns-clause-placed
returns-clause-placed c =
    let d = c.args.self.now in
    let xs = d.paths.now in
    let ds = d.digests.now in
    let start = c.run_below-start.result.0 in
    let count = c.run_below-start.result.1 in
    let run : IsRunOfPaths d.depth c.args.step.now xs start count = c.run_below-start.ensures in
    record {
      sorted = subst (λ ys. AreSorted (rests (d.depth + 1) (take count ys))) (sym (rest_whole xs start)) (run_sorted d.depth c.args.step.now xs start count run c.requires.placed.sorted);
      each = run_length xs ds start count c.requires.placed.each run.within;
    }

pub returns-clause-below : goal.returns-clause-below
returns-clause-below c at =
    let d = c.args.self.now in
    let xs = d.paths.now in
    let ds = d.digests.now in
    let start = c.run_below-start.result.0 in
    let count = c.run_below-start.result.1 in
    ap (λ ys. digests_on_path (rests (d.depth + 1) (take count ys)) (take count (take (length ds - start) (drop start ds))) at) (rest_whole xs start)
    ∙ (ap (λ es. digests_on_path (rests (d.depth + 1) (take count (drop start xs))) (take count es) at) (whole_rest ds start)
    ∙ placed_below d.depth c.args.step.now xs ds start count c.run_below-start.ensures at)
