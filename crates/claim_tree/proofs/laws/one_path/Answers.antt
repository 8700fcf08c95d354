use Rattle.claim_tree.proofs.PointerTexts.{pointer_text-injective}
use Rattle.claim_tree.proofs.laws.one_path.Goals as goal

pub returns : goal.returns
returns c = pointer_text-injective
