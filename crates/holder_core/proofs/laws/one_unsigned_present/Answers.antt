use Rattle.holder_core.proofs.UnsignedPresents as files
use Rattle.holder_core.proofs.laws.one_unsigned_present.Goals as goal

pub returns : goal.returns
returns c = record { one = files.one_present; not_both = files.not_both; one_fault = files.one_fault }
