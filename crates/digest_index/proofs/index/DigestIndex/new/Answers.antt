use Rattle.digest_index.proofs.Keys.{distinct-none}
use Rattle.digest_index.proofs.index.DigestIndex.new.Goals as goal

pub invariant_of-result : goal.invariant_of-result
invariant_of-result c = distinct-none c.with_hasher.result.keys c.with_hasher.ensures.empty
