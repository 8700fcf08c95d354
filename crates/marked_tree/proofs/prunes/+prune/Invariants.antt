use Rattle.std.proofs.Common.{◌≡◌, take}
use Rattle.marked_tree.specs.Marked.{kept, remark_elements, remark_members}
use Rattle.marked_tree.specs.Numbers.{has}
use Rattle.marked_tree.specs.View.{marked_elements_of, marked_members_of}
use Rattle.marked_tree.proofs.prunes.+prune.Given as goal

abbrev pub invariant-prune_list-loop-mark : goal.invariant-prune_list-loop-mark
invariant-prune_list-loop-mark l = l.pruned ≡ remark_elements (kept (has l.fn.kept)) (marked_elements_of (take l.mark-index l.mark-items))

abbrev pub invariant-prune_map-loop-name : goal.invariant-prune_map-loop-name
invariant-prune_map-loop-name l = l.pruned ≡ remark_members (kept (has l.fn.kept)) (marked_members_of (take l.name-index l.name-items))
