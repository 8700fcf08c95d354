use Rattle.marked_tree.proofs.Closing.{marks_close_holds}
use Rattle.marked_tree.proofs.laws.marks_close.Goals as goal

pub returns : goal.returns
returns c = marks_close_holds
