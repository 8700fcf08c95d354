use Rattle.compact_form.proofs.Printed.{hashed_is_front}
use Rattle.compact_form.proofs.laws.hashed_is_front.Goals as goal

pub returns : goal.returns
returns c = hashed_is_front
