use Rattle.std.proofs.Common.{◌≡◌, ◌+◌, ◌≤◌, length, drop}
use Rattle.sd_outside.specs.Limits.{count_max}
use Rattle.issuer_core.specs.Decoys.{decoy_paths}
use Rattle.issuer_core.proofs.judging.are_too_many.Given as goal

abbrev pub invariant-loop-entry : goal.invariant-loop-entry
invariant-loop-entry l = (l.total + length (decoy_paths (drop l.entry-index l.entry-items)) ≡ length (decoy_paths l.entry-items)) × (l.total ≤ count_max)
