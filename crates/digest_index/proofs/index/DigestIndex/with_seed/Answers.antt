use Rattle.digest_index.proofs.Keys.{distinct-none}
use Rattle.digest_index.proofs.index.DigestIndex.with_seed.Goals as goal

pub invariant_of-result : goal.invariant_of-result
invariant_of-result c = distinct-none c.in_ok-texts.texts.keys c.in_ok-texts.ensures.empty
