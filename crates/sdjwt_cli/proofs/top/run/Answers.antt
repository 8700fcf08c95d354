use Rattle.std.proofs.Common.{sym}
use Rattle.cli_parts.proofs.Finished.{ends_by}
use Rattle.sdjwt_cli.specs.Names.{meant_by}
use Rattle.sdjwt_cli.proofs.top.run.Goals as goal

pub returns-clause-ends : goal.returns-clause-ends
returns-clause-ends g c =
    ends_by _ _ _ _ _ c.end_run.result (meant_by c.in-Some.command) (sym c.in-Some.ensures) c.answer.result c.answer.ensures.replies c.answer.ensures.misses c.answer.ensures.rose c.end_run.ensures.finishes
