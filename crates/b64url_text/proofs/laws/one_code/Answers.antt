use Rattle.b64url_text.proofs.Codes.{one_code}
use Rattle.b64url_text.proofs.laws.one_code.Goals as goal

pub returns : goal.returns
returns c = one_code
