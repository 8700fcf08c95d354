use Rattle.std.proofs.Common.{◌≡◌, drop}
use Rattle.marked_tree.specs.Numbers.{has}
use Rattle.marked_tree.specs.Paths.{elements_spots, members_spots}
use Rattle.marked_tree.specs.View.{marked_elements_of, marked_members_of}
use Rattle.selection_core.specs.Asked.{seen_from}
use Rattle.selection_core.proofs.Asking.{IsAskedThrough}
use Rattle.selection_core.proofs.allowing.Asking.+ask.Given as goal

abbrev pub invariant-ask_elements-loop-i : goal.invariant-ask_elements-loop-i
invariant-ask_elements-loop-i g l =
    (l.walk.at ≡ l.fn.walk.at)
    × IsAskedThrough g.F.Fn l.fn.self.consent.now (has l.fn.self.chosen.now) (seen_from l.fn.walk.at (elements_spots l.i (marked_elements_of (drop l.i l.element-items)))) (seen_from l.fn.walk.at (elements_spots 0 (marked_elements_of l.element-items))) l.fn.walk.refused l.walk.refused

abbrev pub invariant-ask_members-loop-name : goal.invariant-ask_members-loop-name
invariant-ask_members-loop-name g l =
    (l.walk.at ≡ l.fn.walk.at)
    × IsAskedThrough g.F.Fn l.fn.self.consent.now (has l.fn.self.chosen.now) (seen_from l.fn.walk.at (members_spots (marked_members_of (drop l.name-index l.name-items)))) (seen_from l.fn.walk.at (members_spots (marked_members_of l.name-items))) l.fn.walk.refused l.walk.refused
