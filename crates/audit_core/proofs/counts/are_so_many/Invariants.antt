use Rattle.std.proofs.Common.{◌≡◌, ◌+◌, drop, map}
use Rattle.claim_tree.specs.View.{tree_of}
use Rattle.digest_sites.specs.GivenView.{given_of}
use Rattle.audit_core.specs.Counts.{count_in, values_count}
use Rattle.audit_core.proofs.counts.are_so_many.Given as goal

abbrev pub invariant-loop-one : goal.invariant-loop-one
invariant-loop-one l = values_count (map given_of (drop l.one-index l.one-items)) + l.fn.wanted ≡ l.left + (count_in (tree_of l.fn.payload) + values_count (map given_of l.one-items))
