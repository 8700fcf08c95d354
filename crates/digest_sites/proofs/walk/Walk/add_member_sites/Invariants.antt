use Rattle.std.proofs.Common.{◌≡◌, ◌++◌, map, drop, IsSome}
use Rattle.std.specs.Prelude.{[], unwrap_or}
use Rattle.claim_tree.specs.ListViews.{elements_of}
use Rattle.digest_sites.specs.Reserved.{texts_of}
use Rattle.digest_sites.specs.Walk.{site}
use Rattle.digest_sites.specs.declared.site.SiteKind.TheVariants.{Member}
use Rattle.digest_sites.proofs.walk.Walk.add_member_sites.Given as goal

abbrev pub invariant-loop-tree : goal.invariant-loop-tree
invariant-loop-tree l =
    let left = texts_of (elements_of (drop l.tree-index l.tree-items)) in
    IsSome left
    × (l.self.at ≡ l.fn.self.at)
    × (l.self.found ++ map (site l.self.at Member) (unwrap_or left []) ≡ l.fn.self.found ++ map (site l.fn.self.at Member) (unwrap_or (texts_of (elements_of l.tree-items)) []))
