use Rattle.std.proofs.Common.{◌≡◌, ◌++◌, drop, string_bytes}
use Rattle.compact_form.specs.Compact.{spelled}
use Rattle.compact_form.proofs.spelling.push_disclosures.Given as goal

abbrev pub invariant-loop-disclosure : goal.invariant-loop-disclosure
invariant-loop-disclosure l = string_bytes l.text ++ spelled (drop l.disclosure-index l.disclosure-items) ≡ string_bytes l.fn.text ++ spelled l.disclosure-items
