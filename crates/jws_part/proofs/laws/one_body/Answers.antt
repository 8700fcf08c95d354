use Rattle.jws_part.proofs.Parts.{one_body, not_both}
use Rattle.jws_part.proofs.laws.one_body.Goals as goal

pub returns : goal.returns
returns c = record { one = one_body; none = not_both }
