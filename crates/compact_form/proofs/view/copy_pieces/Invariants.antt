use Rattle.std.proofs.Common.{◌≡◌, ◌++◌}
use Rattle.compact_form.proofs.view.copy_pieces.Given as goal

abbrev pub invariant-loop-piece : goal.invariant-loop-piece
invariant-loop-piece l = l.copy ++ l.piece-iterator ≡ l.fn.pieces
