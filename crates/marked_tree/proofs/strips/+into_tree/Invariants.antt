use Rattle.std.proofs.Common.{◌≡◌, ◌++◌}
use Rattle.std.specs.Vec.Iter.{into_iter_items}
use Rattle.marked_tree.specs.Marked.{strip_elements, strip_members}
use Rattle.marked_tree.specs.View.{marked_elements_of, marked_members_of}
use Rattle.marked_tree.proofs.strips.+into_tree.Given as goal

abbrev pub invariant-list_into_trees-loop-tree : goal.invariant-list_into_trees-loop-tree
invariant-list_into_trees-loop-tree l =
    (l.stripped ≡ strip_elements (marked_elements_of l.yielded)) × (marked_elements_of (l.yielded ++ into_iter_items l.tree-iterator) ≡ l.fn.list)

abbrev pub invariant-map_into_trees-loop-name : goal.invariant-map_into_trees-loop-name
invariant-map_into_trees-loop-name l =
    (l.stripped ≡ strip_members (marked_members_of l.yielded)) × (marked_members_of (l.yielded ++ into_iter_items l.name-iterator) ≡ l.fn.map)
