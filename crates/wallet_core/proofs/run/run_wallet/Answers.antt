use Rattle.std.proofs.Common.{map, string_bytes}
use Rattle.cli_parts.proofs.Finished.{ends_by}
use Rattle.wallet_core.proofs.run.run_wallet.Goals as goal

pub returns-clause-ends : goal.returns-clause-ends
returns-clause-ends g c =
    ends_by _ _ _ _ _ c.end_run.result (c.in-Some.query.now, map string_bytes c.in-Some.tokens.now) c.in-Some.ensures.some c.fetch_answer.result c.fetch_answer.ensures.replies c.fetch_answer.ensures.misses c.fetch_answer.ensures.rose c.end_run.ensures.finishes
