use Rattle.issuer_core.specs.Order.{order_of}
use Rattle.issuer_core.proofs.Judged.{good_order}
use Rattle.issuer_core.proofs.judging.judged_places.Goals as goal

pub returns-clause-good : goal.returns-clause-good
returns-clause-good c = good_order (order_of c.args.order.now) c.in_ok-judge_places.ensures.passes c.in_ok-judge_payload.ensures.ordered
