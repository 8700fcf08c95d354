use Rattle.cli_parts.proofs.Finished.{ends_by}
use Rattle.audit_core.proofs.run.run_audit.Goals as goal

pub returns-clause-ends : goal.returns-clause-ends
returns-clause-ends g c =
    ends_by _ _ _ _ _ c.end_run.result (c.in-Some.order.now, c.in-Some.token.now) c.in-Some.ensures.some c.answer.result c.answer.ensures.replies c.answer.ensures.misses c.answer.ensures.rose c.end_run.ensures.finishes
