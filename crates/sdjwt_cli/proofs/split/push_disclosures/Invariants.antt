use Rattle.std.proofs.Common.{◌≡◌, ◌++◌, string_bytes}
use Rattle.sdjwt_cli.specs.Split.{disclosure_lines}
use Rattle.sdjwt_cli.proofs.split.push_disclosures.Given as goal

abbrev pub invariant-loop-i : goal.invariant-loop-i
invariant-loop-i l = record {
  ready : (goal.iterator-loop-i).can_next l.i-iterator;
  finite : (goal.iterator-loop-i).is_finite l.i-iterator;
  so_far : string_bytes l.text ++ disclosure_lines l.i-iterator.count l.i-iterator.iter ≡ string_bytes l.initial.text ++ disclosure_lines 0 l.fn.disclosures;
}
