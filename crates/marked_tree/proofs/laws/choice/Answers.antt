use Rattle.marked_tree.proofs.LeastChoice.{choice_holds}
use Rattle.marked_tree.proofs.laws.choice.Goals as goal

pub returns : goal.returns
returns c = choice_holds
