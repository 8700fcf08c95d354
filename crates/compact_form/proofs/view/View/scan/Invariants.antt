use Rattle.std.proofs.Common.{◌≡◌, ◌-◌, length}
use Rattle.compact_form.specs.Reading.{Gathered}
use Rattle.compact_form.specs.Views.{jwt_of}
use Rattle.compact_form.proofs.view.View.scan.Given as goal

abbrev pub invariant-loop-reader : goal.invariant-loop-reader
invariant-loop-reader l = record {
  same : l.reader.text.now ≡ l.text;
  here : l.reader.at ≡ l.front.end;
  so_far : Gathered l.text l.front.from l.front.end l.front.count (jwt_of l.front.signed);
}

abbrev pub decreases-loop-reader : goal.decreases-loop-reader
decreases-loop-reader l = length l.text - l.reader.at
