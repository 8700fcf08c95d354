use Rattle.std.proofs.Common.{rules}
use Rattle.sdjwt_c.specs.Signing.{no_seed}
use Rattle.sdjwt_c.proofs.Signings.{has_no_order}
use Rattle.sdjwt_c.proofs.signing.unsigned.Goals as goal

pub returns-in_ok-short_seed_line-in-None-clause-unreadable : goal.returns-in_ok-short_seed_line-in-None-clause-unreadable
returns-in_ok-short_seed_line-in-None-clause-unreadable c =
    no_seed c.in_ok-order.order (rw c.in_ok-order.ensures.said at c.read_unsigned_order.ensures.ok) c.in-None.ensures.cases c.in_ok-short_seed_line-in-None.ensures

pub returns-in_err-order-clause-unreadable : goal.returns-in_err-order-clause-unreadable
returns-in_err-order-clause-unreadable c =
    let told = has_no_order c.args.order.now c.args.seed.now c.read_unsigned_order.result c.read_unsigned_order.ensures.refused c.in_err-order.field-0.0 c.in_err-order.ensures.unreadable in
    search (rules, told)
