use Rattle.std.proofs.Common.{◌≡◌, ◌++◌, map, length, drop, IsSome}
use Rattle.std.specs.Prelude.{[], unwrap_or}
use Rattle.claim_tree.specs.ListViews.{elements_of}
use Rattle.digest_sites.specs.Reserved.{texts_of}
use Rattle.rebuild_core.specs.Rows.{seen, own_row, beside_names}
use Rattle.rebuild_core.proofs.rows.list_texts.Given as goal

abbrev pub invariant-loop-tree : goal.invariant-loop-tree
invariant-loop-tree l =
    let left = texts_of (elements_of (drop l.tree-index l.tree-items)) in
    let row = own_row l.top (length l.fn.out.items) (beside_names l.top l.members) in
    IsSome left × (map seen l.out.items ++ map row (unwrap_or left []) ≡ map seen l.fn.out.items ++ map row (unwrap_or (texts_of (elements_of l.tree-items)) []))
