use Rattle.std.proofs.Common.{◌≡◌, ◌++◌, drop}
use Rattle.rebuild_core.specs.LookUps.{counted}
use Rattle.rebuild_core.specs.DigestNumbers.{numbers, all_interned, row_texts}
use Rattle.rebuild_core.proofs.numbers.number_rows.Given as goal

abbrev pub invariant-loop-row : goal.invariant-loop-row
invariant-loop-row l =
    (l.found.items ++ numbers l.index (row_texts (drop l.row-index l.rows)) ≡ numbers l.fn.index (row_texts l.rows))
    × (all_interned l.index (row_texts (drop l.row-index l.rows)) ≡ all_interned l.fn.index (row_texts l.rows))
    × (l.steps ≡ counted l.fn.steps l.row-index)
