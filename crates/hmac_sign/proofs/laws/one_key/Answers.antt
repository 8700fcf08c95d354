use Rattle.hmac_sign.proofs.Blocks.{one_key}
use Rattle.hmac_sign.proofs.laws.one_key.Goals as goal

pub returns : goal.returns
returns c = one_key
