use Rattle.std.proofs.Common.{◌≡◌}
use Rattle.std.specs.Vec.Iter.{into_iter_items}
use Rattle.marked_tree.specs.Marked.{no_marked_members}
use Rattle.marked_tree.specs.MarkedCalls.{put_all}
use Rattle.marked_tree.specs.View.{marked_members_of}
use Rattle.marked_tree.proofs.marked.of_members.Given as goal

abbrev pub invariant-loop-name : goal.invariant-loop-name
invariant-loop-name l = put_all (marked_members_of (into_iter_items l.name-iterator)) l.map ≡ put_all (marked_members_of l.fn.members.items) no_marked_members
