use Rattle.std.proofs.Common.{◌≡◌, drop, map}
use Rattle.digest_sites.specs.GivenView.{given_of}
use Rattle.audit_core.specs.SortedLists.{values_have}
use Rattle.audit_core.proofs.sorted.are_values_sorted.Given as goal

abbrev pub invariant-loop-one : goal.invariant-loop-one
invariant-loop-one l = values_have (map given_of (drop l.one-index l.one-items)) ≡ values_have (map given_of l.one-items)
