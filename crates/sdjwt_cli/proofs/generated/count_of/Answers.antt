use Rattle.std.proofs.Common.{sym, ◌∙◌}
use Rattle.sdjwt_cli.proofs.GeneratedWords.{counted_none}
use Rattle.sdjwt_cli.proofs.generated.count_of.Goals as goal

pub returns-in_err-position : goal.returns-in_err-position
returns-in_err-position c = c.from_residual.ensures ∙ sym (counted_none c.args.word.now (c.position.ensures.none c.in_err-position.was))
