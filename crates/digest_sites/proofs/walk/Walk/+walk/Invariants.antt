use Rattle.std.proofs.Common.{◌≡◌, ◌++◌, drop}
use Rattle.claim_tree.specs.ListViews.{elements_of, members_of}
use Rattle.digest_sites.specs.Walk.{elements_sites, members_sites}
use Rattle.digest_sites.proofs.walk.Walk.+walk.Given as goal

abbrev pub invariant-visit_elements-loop-i : goal.invariant-visit_elements-loop-i
invariant-visit_elements-loop-i l =
    (l.self.at ≡ l.fn.self.at)
    × (l.self.found ++ elements_sites l.self.at l.i (elements_of (drop l.i l.tree-items)) ≡ l.fn.self.found ++ elements_sites l.fn.self.at 0 (elements_of l.tree-items))

abbrev pub invariant-visit_members-loop-name : goal.invariant-visit_members-loop-name
invariant-visit_members-loop-name l =
    (l.self.at ≡ l.fn.self.at)
    × (l.self.found ++ members_sites l.self.at (members_of (drop l.name-index l.name-items)) ≡ l.fn.self.found ++ members_sites l.fn.self.at (members_of l.name-items))
