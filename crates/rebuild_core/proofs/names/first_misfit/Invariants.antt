use Rattle.std.proofs.Common.{map}
use Rattle.rebuild_core.specs.Rows.{seen}
use Rattle.rebuild_core.specs.RowNames.{IsMisfit}
use Rattle.rebuild_core.proofs.LeastIll.{IsLow}
use Rattle.rebuild_core.proofs.names.first_misfit.Given as goal

abbrev pub invariant-loop-place : goal.invariant-loop-place
invariant-loop-place l = IsLow (IsMisfit l.misfit) (map seen l.rows) l.numbers l.given l.place l.least
