use Rattle.std.proofs.Common.{◌≡◌, drop}
use denote.Shadow.{shadow}
use denote.Text.{Utf8}
use Rattle.claim_tree.specs.ListViews.{elements_of}
use Rattle.audit_core.specs.SortedLists.{rise}
use Rattle.audit_core.proofs.sorted.ascends.Given as goal

abbrev pub invariant-loop-tree : goal.invariant-loop-tree
invariant-loop-tree l = shadow (Utf8 l.least) × (rise l.least (elements_of (drop l.tree-index l.trees)) ≡ rise l.fn.least (elements_of l.trees))
