-- What is presented for the order is so for what the file says.
use Rattle.std.proofs.Common.{Some}
use Rattle.sdjwt_c.proofs.Presentings.{gives_by, refuses_by}
use Rattle.sdjwt_c.proofs.presenting.presented.Goals as goal

pub returns-clause-gives : goal.returns-clause-gives
returns-clause-gives c =
    gives_by c.args.order.now c.in_ok-order.order c.in_ok-order.ensures.order c.args.token.now c.args.now (Some c.args.word) c.args.signature.now c.presented_for.result c.presented_for.ensures.gives

pub returns-clause-refuses : goal.returns-clause-refuses
returns-clause-refuses c =
    refuses_by c.args.order.now c.in_ok-order.order c.in_ok-order.ensures.order c.args.token.now c.args.now (Some c.args.word) c.args.signature.now c.presented_for.result c.presented_for.ensures.refuses
