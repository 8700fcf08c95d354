use Rattle.std.specs.Vec.Iter.{into_iter_items}
use Rattle.claim_tree.specs.ListViews.{elements_of, members_of}
use Rattle.marked_tree.specs.PathsBelow.{rests_of}
use Rattle.marked_tree.proofs.MarkSame.{MarksElements, MarksMembers}
use Rattle.marked_tree.proofs.marking.+mark.Given as goal

abbrev pub invariant-mark_list-loop-tree : goal.invariant-mark_list-loop-tree
invariant-mark_list-loop-tree l = MarksElements (rests_of l.fn.paths) l.fn.next l.fn.trees l.marked l.next (elements_of (into_iter_items l.tree-iterator))

abbrev pub invariant-mark_map-loop-name : goal.invariant-mark_map-loop-name
invariant-mark_map-loop-name l = MarksMembers (rests_of l.fn.paths) l.fn.next l.fn.trees l.marked l.next (members_of (into_iter_items l.name-iterator))
