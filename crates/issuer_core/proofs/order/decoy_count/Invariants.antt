use Rattle.std.proofs.Common.{◌≡◌, ◌+◌, length, drop}
use Rattle.issuer_core.specs.Decoys.{decoy_paths}
use Rattle.issuer_core.proofs.order.decoy_count.Given as goal

abbrev pub invariant-loop-entry : goal.invariant-loop-entry
invariant-loop-entry l = l.count + length (decoy_paths (drop l.entry-index l.entry-items)) ≡ length (decoy_paths l.entry-items)
