use Rattle.std.proofs.Common.{◌≡◌, ◌+◌, length, drop}
use Rattle.compact_form.specs.Compact.{spelled}
use Rattle.compact_form.proofs.lengths.left_by_disclosures.Given as goal

abbrev pub invariant-loop-disclosure : goal.invariant-loop-disclosure
invariant-loop-disclosure l = l.left + length (spelled l.disclosure-items) ≡ l.fn.most + length (spelled (drop l.disclosure-index l.disclosure-items))
