use Rattle.std.proofs.Common.{◌≡◌, ◌++◌, map, length, drop}
use Rattle.claim_tree.specs.ListViews.{elements_of, members_of}
use Rattle.rebuild_core.specs.Rows.{seen, element_rows, member_rows}
use Rattle.rebuild_core.proofs.rows.+rows.Given as goal

abbrev pub invariant-list_elements-loop-tree : goal.invariant-list_elements-loop-tree
invariant-list_elements-loop-tree l =
    map seen l.out.items ++ element_rows (length l.out.items) (elements_of (drop l.tree-index l.tree-items)) ≡ map seen l.fn.out.items ++ element_rows (length l.fn.out.items) (elements_of l.tree-items)

abbrev pub invariant-list_members-loop-name : goal.invariant-list_members-loop-name
invariant-list_members-loop-name l =
    map seen l.out.items ++ member_rows (length l.out.items) (members_of (drop l.name-index l.name-items)) ≡ map seen l.fn.out.items ++ member_rows (length l.fn.out.items) (members_of l.name-items)
