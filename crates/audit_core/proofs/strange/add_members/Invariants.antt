use Rattle.std.proofs.Common.{◌≡◌, ◌++◌, drop, IsSome}
use Rattle.std.specs.Prelude.{[], unwrap_or}
use Rattle.claim_tree.specs.ListViews.{elements_of}
use Rattle.digest_sites.specs.Reserved.{texts_of}
use Rattle.audit_core.specs.Strange.{is_in, strange_own}
use Rattle.audit_core.proofs.strange.add_members.Given as goal

abbrev pub invariant-loop-tree : goal.invariant-loop-tree
invariant-loop-tree l =
    let left = texts_of (elements_of (drop l.tree-index l.tree-items)) in
    IsSome left
    × (l.search.at ≡ l.fn.search.at)
    × (l.search.known ≡ l.fn.search.known)
    × (l.search.found ++ strange_own (is_in l.search.known.keys) l.search.at (unwrap_or left [])
    ≡ l.fn.search.found ++ strange_own (is_in l.fn.search.known.keys) l.fn.search.at (unwrap_or (texts_of (elements_of l.tree-items)) []))
