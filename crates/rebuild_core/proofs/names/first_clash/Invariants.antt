use Rattle.std.proofs.Common.{map}
use Rattle.rebuild_core.specs.Rows.{seen}
use Rattle.rebuild_core.specs.Disclosed.{is_name_disclosed}
use Rattle.rebuild_core.proofs.ClashFacts.{IsNoted}
use Rattle.rebuild_core.proofs.names.first_clash.Given as goal

abbrev pub invariant-loop-place : goal.invariant-loop-place
invariant-loop-place l = IsNoted (map seen l.rows) l.numbers l.given l.place (is_name_disclosed l.disclosed)
