use Rattle.std.proofs.Common.{List, ℕ, IfOk, string_bytes, ◌≡◌, ap, subst}
use Rattle.cli_parts.specs.Lines.{line}
use Rattle.cli_parts.proofs.lines.refusal_line.Goals as goal

pub returns : goal.returns
returns c = subst (λ (text : List ℕ). IfOk c.as_line.result (λ whole. string_bytes whole ≡ text)) (ap line c.in_ok-fault_line.ensures) c.as_line.ensures
