use Rattle.std.proofs.Common.{length, arith}
use Rattle.rebuild_core.proofs.Cuts.{ascends_at}
use Rattle.rebuild_core.proofs.graph.Graph.end.Goals as goal

pub returns-clause-within : goal.returns-clause-within
returns-clause-within c =
    let self = c.args.self.now in
    let w = ascends_at 0 self.ends.items (length self.numbers.items) c.args.tree c.index.result.now c.requires.ascends c.requires.tree in
    omega (arith, w.1, c.index.ensures)
