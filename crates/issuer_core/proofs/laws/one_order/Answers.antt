use Rattle.issuer_core.proofs.OrderFiles as files
use Rattle.issuer_core.proofs.laws.one_order.Goals as goal

pub returns : goal.returns
returns c = record { one = files.one_order; not_both = files.not_both; one_fault = files.one_fault }
