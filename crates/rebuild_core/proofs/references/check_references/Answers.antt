use Rattle.claim_tree.specs.View.{tree_of}
use Rattle.rebuild_core.proofs.Transfer.{many_ends}
use Rattle.rebuild_core.proofs.Judged.{numbered}
use Rattle.rebuild_core.proofs.Telling.{told}
use Rattle.rebuild_core.proofs.references.check_references.Goals as goal

pub returns-in-Ok-check_met-clause-numbers : goal.returns-in-Ok-check_met-clause-numbers
returns-in-Ok-check_met-clause-numbers c =
    let n = c.in-Ok.found in
    numbered (tree_of c.args.payload.now) c.args.given.now n.index n.graph.numbers.items n.graph.ends.items c.in-Ok.ensures.flat c.in-Ok-check_met.ensures.referenced

pub returns-in-Ok-check_met-clause-told : goal.returns-in-Ok-check_met-clause-told
returns-in-Ok-check_met-clause-told c =
    let n = c.in-Ok.found in
    told (tree_of c.args.payload.now) c.args.given.now c.invariant.ensures.ordered c.requires.object c.in-Ok-check_met.ensures.referenced n.index n.graph.numbers.items n.graph.ends.items c.in-Ok.ensures.flat
    (many_ends (tree_of c.args.payload.now) c.args.given.now c.invariant.ensures.ordered c.requires.object n.index n.graph.numbers.items n.graph.ends.items c.in-Ok.ensures.flat)
