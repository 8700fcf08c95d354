use Rattle.marked_tree.proofs.MarkFacts.{marks_once_holds}
use Rattle.marked_tree.proofs.laws.marks_once.Goals as goal

pub returns : goal.returns
returns c = marks_once_holds
