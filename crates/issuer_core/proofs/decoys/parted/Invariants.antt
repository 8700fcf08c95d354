use Rattle.std.proofs.Common.{◌≡◌, ◌++◌}
use Rattle.std.specs.Vec.Iter.{into_iter_items}
use Rattle.issuer_core.specs.Laying.{paths_in, digests_in}
use Rattle.issuer_core.proofs.decoys.parted.Given as goal

abbrev pub invariant-loop-path : goal.invariant-loop-path
invariant-loop-path l =
    (l.paths.items ++ paths_in (into_iter_items l.path-iterator) ≡ paths_in l.fn.entries.items) × (l.digests.items ++ digests_in (into_iter_items l.path-iterator) ≡ digests_in l.fn.entries.items)
