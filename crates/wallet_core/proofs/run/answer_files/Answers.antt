use Rattle.std.proofs.Common.{Err, ap}
use Rattle.wallet_core.proofs.run.answer_files.Goals as goal

pub returns-clause-replies : goal.returns-clause-replies
returns-clause-replies c =
    record { said = c.in_ok-said.said; is_query = rw c.in_ok-said.ensures.said at c.read_query.ensures.ok; none = c.in-Err-NoAnswer.ensures.none (ap Err c.in-Err-NoAnswer.field-0-is); line_is = c.in_ok-none_line-in-Err-NoAnswer.ensures }
