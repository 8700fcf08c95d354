use Rattle.std.proofs.Common.{◌≡◌, ◌++◌, length, take, drop}
use Rattle.issuer_core.specs.Decoys.{decoy_paths}
use Rattle.issuer_core.specs.Laying.{paths_in, digests_in}
use Rattle.issuer_core.proofs.decoys.sort_decoys.Given as goal

abbrev pub invariant-loop-decoy : goal.invariant-loop-decoy
invariant-loop-decoy l =
    (paths_in l.entries.items ++ decoy_paths (drop l.decoy-index l.decoy-items) ≡ decoy_paths l.decoy-items) × (digests_in l.entries.items ≡ take (length l.entries.items) l.fn.digests)
