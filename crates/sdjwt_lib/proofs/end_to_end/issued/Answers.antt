use Rattle.std.proofs.Common.{Err, ap}
use Rattle.sdjwt_lib.proofs.EndToEnd.{never}
use Rattle.sdjwt_lib.proofs.end_to_end.issued.Goals as goal

pub returns-in-Err-clause-signed : goal.returns-in-Err-clause-signed
returns-in-Err-clause-signed c = λ is. never (c.in-Err.ensures.failed (ap Err is))
