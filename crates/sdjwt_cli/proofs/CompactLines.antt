-- The line of a compact text is read as its parts.
use Rattle.std.proofs.Common.{inl, inr, ◌≤◌, length, arith}
use Rattle.sd_outside.specs.Limits.{compact_max, count_max}
use Rattle.compact_form.specs.declared.parts.Parts.{Parts}
use Rattle.compact_form.specs.Compact.{compact, AreWords}
use Rattle.json_form.specs.Token.{IsTooMuch, IsToken}
use Rattle.json_form.proofs.Lines.{read_compact_line}
use Rattle.cli_parts.specs.Lines.{line}
use Rattle.json_form.specs.Alone.{alone}

pub line_token : (parts : Parts) → AreWords parts → length (compact parts) ≤ compact_max → length parts.disclosures ≤ count_max → IsToken (line (compact parts)) (alone parts)
line_token parts words small few = read_compact_line parts words go
  where
    go : IsTooMuch parts → ⊥
    go (inl many) = omega (arith, few, many)
    go (inr long) = omega (arith, small, long)
