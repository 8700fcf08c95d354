use Rattle.std.proofs.Common.{map, string_bytes}
use Rattle.cli_parts.proofs.Finished.{reply_more}
use Rattle.wallet_core.specs.WalletRun.{PicksFromFiles, WalletAnswers}
use Rattle.wallet_core.proofs.Fetched.{all_fetched_as}
use Rattle.wallet_core.proofs.run.fetch_answer.Goals as goal

pub returns-clause-replies : goal.returns-clause-replies
returns-clause-replies g c =
    let holds = g.C.Cabinet.holds c.args.cab.now in
    let tokens = map string_bytes c.args.tokens.now in
    let held = c.in_ok-held.held in
    let all = all_fetched_as (g.C.Cabinet.holds c.fetch_file.new.cab) holds (λ name. c.in_ok-file.ensures.held name) tokens held c.in_ok-held.ensures.all in
    reply_more (WalletAnswers c.bytes.result.now held) (PicksFromFiles holds c.args.query.now tokens)
    (λ reply h. record { query_file = c.bytes.result.now; held = held; fetched = rw c.bytes.ensures c.in_ok-file.ensures.content; all_fetched = all; answers = h }) c.answer_files.result c.answer_files.ensures.replies
