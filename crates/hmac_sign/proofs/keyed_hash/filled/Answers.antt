use Rattle.std.proofs.Common.{ap₂, ◌++◌, List, ℕ, length}
use Rattle.std.proofs.lemmas.List.{drop-replicate}
use Rattle.hmac_sign.proofs.keyed_hash.filled.Goals as goal

pub returns : goal.returns
returns c = ap₂ (λ (x y : List ℕ). x ++ y) c.copy_from_slice.ensures.after (drop-replicate (length c.args.key.now) 128 0)
