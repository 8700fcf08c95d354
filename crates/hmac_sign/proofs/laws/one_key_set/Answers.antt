use Rattle.hmac_sign.proofs.KeySetVerdicts.{one_key_set, not_no_set, not_no_code, not_too_short}
use Rattle.hmac_sign.proofs.laws.one_key_set.Goals as goal

pub returns : goal.returns
returns c = record { one = one_key_set; a_set = not_no_set; codes = not_no_code; long = not_too_short }
