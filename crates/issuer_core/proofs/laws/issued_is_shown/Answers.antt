use Rattle.issuer_core.proofs.IssuedShown.{issued_is_shown_holds}
use Rattle.issuer_core.proofs.laws.issued_is_shown.Goals as goal

pub returns : goal.returns
returns c = issued_is_shown_holds
