use Rattle.std.proofs.Common.{append_assoc, ◌∙◌}
use Rattle.sdjwt_cli.proofs.summary.push_count.Goals as goal

pub returns : goal.returns
returns c = c.in_ok-writeln.ensures.bytes ∙ simp append_assoc
