use Rattle.std.specs.Vec.Iter.{into_iter_items}
use Rattle.marked_tree.specs.View.{marked_elements_of, marked_members_of}
use Rattle.issuer_core.proofs.LayingElements.{LaysElements}
use Rattle.issuer_core.proofs.LayingMembers.{LaysMembers}
use Rattle.issuer_core.proofs.laying.+lay.Given as goal

abbrev pub invariant-lay_list-loop-mark : goal.invariant-lay_list-loop-mark
invariant-lay_list-loop-mark l =
    LaysElements l.fn.decoys l.fn.hiding l.fn.layer.texts l.fn.list l.laid l.layer.texts l.layer.digests (marked_elements_of (into_iter_items l.mark-iterator))

abbrev pub invariant-lay_map-loop-name : goal.invariant-lay_map-loop-name
invariant-lay_map-loop-name l =
    LaysMembers l.fn.decoys l.fn.hiding l.fn.layer.texts l.fn.members l.laid l.digests.items l.layer.texts l.layer.digests (marked_members_of (into_iter_items l.name-iterator))
