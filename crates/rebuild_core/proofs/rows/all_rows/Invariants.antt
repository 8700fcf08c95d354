use Rattle.std.proofs.Common.{map, drop}
use Rattle.claim_tree.specs.View.{tree_of}
use Rattle.digest_sites.specs.GivenView.{given_of}
use Rattle.rebuild_core.specs.Rows.{all_rows, row_ends}
use Rattle.rebuild_core.proofs.RowSteps.{IsListed}
use Rattle.rebuild_core.proofs.rows.all_rows.Given as goal

abbrev pub invariant-loop-item : goal.invariant-loop-item
invariant-loop-item l =
    IsListed (all_rows (tree_of l.payload) l.given) (row_ends (tree_of l.payload) l.given) l.rows.items l.ends.items (map given_of (drop l.item-index l.item-items))
