use Rattle.marked_tree.proofs.MarkFacts.{mark_strips_holds}
use Rattle.marked_tree.proofs.laws.mark_strips.Goals as goal

pub returns : goal.returns
returns c = mark_strips_holds
