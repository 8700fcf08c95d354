use Rattle.marked_tree.proofs.LeftOut.{chosen_is_left}
use Rattle.marked_tree.proofs.laws.chosen_is_left.Goals as goal

pub returns : goal.returns
returns c = chosen_is_left
