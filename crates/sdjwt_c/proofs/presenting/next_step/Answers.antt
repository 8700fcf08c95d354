-- What is told is so of what the file says.
use Rattle.std.proofs.Common.{rules}
use Rattle.sdjwt_c.proofs.Presentings.{steps_by, steps_nowhere}
use Rattle.sdjwt_c.proofs.presenting.next_step.Goals as goal

pub returns : goal.returns
returns c = steps_by c.args.order.now c.args.token.now c.args.now c.args.word c.in_ok-order.order c.in_ok-order.ensures.order c.step_for.result c.step_for.ensures

pub returns-in_err-order : goal.returns-in_err-order
returns-in_err-order c =
    let why = c.in_err-order.ensures in
    let told = steps_nowhere c.args.order.now c.args.token.now c.args.now c.args.word c.in_err-order.field-0.0 why.unreadable why.fit why.read in
    search (rules, told)
