use Rattle.claim_tree.proofs.PointerRule.{is_no_pointer}
use Rattle.claim_tree.proofs.laws.no_path.Goals as goal

pub returns : goal.returns
returns c = is_no_pointer
