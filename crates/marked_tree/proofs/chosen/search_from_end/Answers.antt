use Rattle.std.proofs.Common.{sym}
use Rattle.marked_tree.proofs.RisingSearch.{behind_last}
use Rattle.marked_tree.proofs.chosen.search_from_end.Goals as goal

pub returns-in-Some-clause-position : goal.returns-in-Some-clause-position
returns-in-Some-clause-position c = behind_last c.args.marks.now c.args.mark c.in-Some.last.now c.requires (sym c.in-Some.ensures.value) c.if-last-mark.true
