use Rattle.issuer_core.proofs.UnsignedOrders.{one_order, not_both, one_fault}
use Rattle.issuer_core.proofs.laws.one_unsigned_order.Goals as goal

pub returns : goal.returns
returns c = record { one = one_order; not_both = not_both; one_fault = one_fault }
