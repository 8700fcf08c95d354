use Rattle.std.proofs.Common.{◌≡◌, drop}
use Rattle.marked_tree.specs.Paths.{first_with, elements_spots, members_spots}
use Rattle.marked_tree.specs.View.{marked_elements_of, marked_members_of}
use Rattle.marked_tree.proofs.places.+find.Given as goal

abbrev pub invariant-find_element-loop-i : goal.invariant-find_element-loop-i
invariant-find_element-loop-i l = first_with l.fn.mark (elements_spots l.i (marked_elements_of (drop l.i l.element-items))) ≡ first_with l.fn.mark (elements_spots 0 (marked_elements_of l.element-items))

abbrev pub invariant-find_member-loop-name : goal.invariant-find_member-loop-name
invariant-find_member-loop-name l = first_with l.fn.mark (members_spots (marked_members_of (drop l.name-index l.name-items))) ≡ first_with l.fn.mark (members_spots (marked_members_of l.name-items))
