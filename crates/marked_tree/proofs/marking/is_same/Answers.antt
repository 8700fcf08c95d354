use Rattle.marked_tree.proofs.DifferentPaths.{same_if}
use Rattle.marked_tree.proofs.marking.is_same.Goals as goal

pub returns : goal.returns
returns c = same_if c.is_same.result c.args.one.now c.args.other.now c.is_same.ensures
