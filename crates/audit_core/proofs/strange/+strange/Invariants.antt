use Rattle.std.proofs.Common.{◌≡◌, ◌++◌, drop}
use Rattle.claim_tree.specs.View.{tree_of}
use Rattle.claim_tree.specs.ListViews.{elements_of, members_of}
use Rattle.audit_core.specs.Strange.{is_in, strange_at, strange_elements, strange_members}
use Rattle.audit_core.proofs.strange.+strange.Given as goal

abbrev pub invariant-walk-loop-i : goal.invariant-walk-loop-i
invariant-walk-loop-i l =
    (l.search.at ≡ l.fn.search.at)
    × (l.search.known ≡ l.fn.search.known)
    × (l.search.found ++ strange_elements (is_in l.search.known.keys) l.search.at l.i (elements_of (drop l.i l.tree-items))
    ≡ l.fn.search.found ++ strange_at (is_in l.fn.search.known.keys) l.fn.search.at (tree_of l.fn.tree))

abbrev pub invariant-walk-loop-name : goal.invariant-walk-loop-name
invariant-walk-loop-name l =
    (l.search.at ≡ l.fn.search.at)
    × (l.search.known ≡ l.fn.search.known)
    × (l.search.found ++ strange_members (is_in l.search.known.keys) l.search.at (members_of (drop l.name-index l.name-items))
    ≡ l.fn.search.found ++ strange_at (is_in l.fn.search.known.keys) l.fn.search.at (tree_of l.fn.tree))
