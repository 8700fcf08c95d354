use Rattle.std.proofs.Common.{◌≡◌, take}
use Rattle.marked_tree.specs.Marked.{strip_elements, strip_members}
use Rattle.marked_tree.specs.View.{marked_elements_of, marked_members_of}
use Rattle.marked_tree.proofs.strips.+strip.Given as goal

abbrev pub invariant-strip_list-loop-tree : goal.invariant-strip_list-loop-tree
invariant-strip_list-loop-tree l = l.stripped ≡ strip_elements (marked_elements_of (take l.tree-index l.tree-items))

abbrev pub invariant-strip_map-loop-name : goal.invariant-strip_map-loop-name
invariant-strip_map-loop-name l = l.stripped ≡ strip_members (marked_members_of (take l.name-index l.name-items))
