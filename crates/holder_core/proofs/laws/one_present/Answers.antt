use Rattle.holder_core.proofs.PresentFiles as files
use Rattle.holder_core.proofs.laws.one_present.Goals as goal

pub returns : goal.returns
returns c = record { one = files.one_present; not_both = files.not_both; one_fault = files.one_fault }
