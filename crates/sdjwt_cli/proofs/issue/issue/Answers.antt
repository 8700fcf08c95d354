use Rattle.std.proofs.Common.{rules}
use Rattle.sdjwt_cli.specs.Issuing.{no_seed}
use Rattle.sdjwt_cli.proofs.Issuings.{has_no_order}
use Rattle.sdjwt_cli.proofs.issue.issue.Goals as goal

pub returns-in_ok-short_seed_line-in-None-clause-unreadable : goal.returns-in_ok-short_seed_line-in-None-clause-unreadable
returns-in_ok-short_seed_line-in-None-clause-unreadable c = no_seed c.in_ok-asked.asked (rw c.in_ok-asked.ensures.said at c.read_order.ensures.ok) c.in-None.ensures.cases c.in_ok-short_seed_line-in-None.ensures

pub returns-in_err-asked-clause-unreadable : goal.returns-in_err-asked-clause-unreadable
returns-in_err-asked-clause-unreadable c =
    let told = has_no_order c.args.order_file.now c.args.seed_file.now c.read_order.result c.read_order.ensures.refused c.in_err-asked.field-0.0 c.in_err-asked.ensures.unreadable in
    search (rules, told)
