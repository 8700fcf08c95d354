use Rattle.std.proofs.Common.{arith, rules}
use Rattle.std.proofs.lemmas.List.Sorted.{IsPartitionPoint-from_clause}
use Rattle.std.proofs.lemmas.Bool.{leb-true, leb-false}
use Rattle.issuer_core.proofs.PlacedDecoys.{placed_here, is_short, parted_short}
use Rattle.issuer_core.proofs.decoys.Decoys.here.Goals as goal

pub returns : goal.returns
returns c =
    let d = c.args.self.now in
    let count = c.partition_point-count.result in
    let point = IsPartitionPoint-from_clause (is_short d.depth) _ _ c.partition_point-count.ensures.partitioned (parted_short d.depth d.paths.now c.requires.sorted) (λ a r q k. search rules) in
    placed_here d.depth d.paths.now d.digests.now count (λ k e l h. leb-true _ _ (point.0 k e (omega arith) l)) (λ k e l h. leb-false _ _ (point.1 k e l h)) c.requires.each
