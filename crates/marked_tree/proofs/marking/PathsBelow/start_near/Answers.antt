use Rattle.std.proofs.Common.{◌-◌, ◌≤◌, length, drop, get_or, rules}
use Rattle.std.proofs.lemmas.List.Sorted.{IsPartitionPoint-from_clause}
use Rattle.marked_tree.specs.Rests.{step_order}
use Rattle.marked_tree.proofs.PathOrder.{is_less, index_less, parted_less}
use Rattle.marked_tree.proofs.RunSearch.{edge_point, start_is, not_less}
use Rattle.marked_tree.proofs.marking.PathsBelow.start_near.Goals as goal

pub returns-then-not-is_lower : goal.returns-then-not-is_lower
returns-then-not-is_lower c =
    let depth = c.args.self.now.depth in
    let step = c.args.step.now in
    let xs = c.args.self.now.sorted.now in
    let near = c.args.near in
    let within : near ≤ length xs = search rules in
    start_is depth step xs near within
    (edge_point (is_less depth step) xs near (parted_less depth step xs c.requires) within
    (λ d l. index_less (step_order (drop depth (get_or xs (near - 1) d)) step) (c.is_lower_before.ensures c.if-is_lower_before.true d l))
    (λ d l. not_less (step_order (drop depth (get_or xs near d)) step) (c.is_lower.ensures c.if-not-is_lower.true d l)))

pub returns : goal.returns
returns c =
    let depth = c.args.self.now.depth in
    let step = c.args.step.now in
    let xs = c.args.self.now.sorted.now in
    let point = IsPartitionPoint-from_clause (is_less depth step) _ _ c.partition_point.ensures.partitioned (parted_less depth step xs c.requires) (λ a r q k. search rules) in
    start_is depth step xs c.partition_point.result c.partition_point.ensures.bound point
