use Rattle.std.proofs.Common.{append_assoc, ◌∙◌}
use Rattle.cli_parts.proofs.lines.unreadable_line.Goals as goal

pub returns : goal.returns
returns c = c.in_ok-format.ensures.ok ∙ rw c.in_ok-reason.ensures (simp append_assoc)
