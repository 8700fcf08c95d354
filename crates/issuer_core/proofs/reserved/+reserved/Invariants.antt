use Rattle.std.proofs.Common.{◌≡◌, drop}
use Rattle.std.specs.Prelude.{slice_get}
use Rattle.claim_tree.specs.ListViews.{elements_of, members_of}
use Rattle.issuer_core.proofs.ReservedPlaces.{ElementsFit, MembersFit, left_elements, left_members, every}
use Rattle.issuer_core.specs.ReservedPaths.{reserved_elements, reserved_members}
use Rattle.issuer_core.proofs.reserved.+reserved.Given as goal

abbrev pub invariant-find_in_list-loop-i : goal.invariant-find_in_list-loop-i
invariant-find_in_list-loop-i l =
    (slice_get (left_elements l.i l.tree-items) 0 ≡ slice_get (reserved_elements 0 (elements_of l.tree-items)) 0)
    × (ElementsFit (elements_of (drop l.i l.tree-items)) → ElementsFit (elements_of l.tree-items))

abbrev pub invariant-find_in_members-loop-name : goal.invariant-find_in_members-loop-name
invariant-find_in_members-loop-name l =
    (slice_get (left_members l.name-index l.name-items) 0 ≡ slice_get (reserved_members every (members_of l.name-items)) 0)
    × (MembersFit (members_of (drop l.name-index l.name-items)) → MembersFit (members_of l.name-items))
