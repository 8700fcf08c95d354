use Rattle.std.proofs.Common.{◌≡◌, ◌+◌, ◌++◌, length, take}
use Rattle.std.specs.Prelude.{replicate}
use Rattle.issuer_core.specs.Laying.{paths_in, digests_in}
use Rattle.issuer_core.proofs.decoys.push_entries.Given as goal

abbrev pub invariant-loop : goal.invariant-loop
invariant-loop l =
    (paths_in l.entries.items ≡ paths_in l.fn.entries.items ++ replicate l.counter l.fn.at) × (digests_in l.entries.items ≡ take (length l.entries.items) l.fn.digests) × (length l.entries.items ≡ length l.fn.entries.items + l.counter)
