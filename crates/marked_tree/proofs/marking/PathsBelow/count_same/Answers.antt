use Rattle.std.proofs.Common.{arith, length, rules}
use Rattle.std.proofs.lemmas.List.Sorted.{IsPartitionPoint-from_clause}
use Rattle.marked_tree.proofs.PathOrder.{is_tied}
use Rattle.marked_tree.proofs.RunSearch.{parted_same, same_parted, edge_parted}
use Rattle.marked_tree.proofs.marking.PathsBelow.count_same.Goals as goal

pub returns-then-not-has_step-clause-parted : goal.returns-then-not-has_step-clause-parted
returns-then-not-has_step-clause-parted c =
    edge_parted c.args.self.now.depth c.args.step.now c.args.self.now.sorted.now 0 c.requires.sorted c.requires.follow (omega arith) (λ d l. absurd (omega (arith, l))) (c.has_step.ensures.differs c.if-not-has_step.true)

pub returns-then-not-has_step-2-clause-parted : goal.returns-then-not-has_step-2-clause-parted
returns-then-not-has_step-2-clause-parted c =
    let there = c.has_step.ensures.there c.if-not-has_step.false in
    edge_parted c.args.self.now.depth c.args.step.now c.args.self.now.sorted.now 1 c.requires.sorted c.requires.follow (omega (arith, there)) (λ d l. c.has_step.ensures.has c.if-not-has_step.false d) (c.has_step-2.ensures.differs c.if-not-has_step-2.true)

pub returns-then-has_step-clause-parted : goal.returns-then-has_step-clause-parted
returns-then-has_step-clause-parted c =
    let xs = c.args.self.now.sorted.now in
    edge_parted c.args.self.now.depth c.args.step.now xs (length xs) c.requires.sorted c.requires.follow (omega arith) (λ d l. c.has_step-3.ensures.has c.if-has_step.true d) (λ d l. absurd (omega (arith, l)))

pub returns-clause-parted : goal.returns-clause-parted
returns-clause-parted c =
    let depth = c.args.self.now.depth in
    let step = c.args.step.now in
    let xs = c.args.self.now.sorted.now in
    same_parted depth step xs c.partition_point.result c.requires.follow
    (IsPartitionPoint-from_clause (is_tied depth step) _ _ c.partition_point.ensures.partitioned (parted_same depth step xs c.requires.sorted c.requires.follow) (λ a r q k. search rules))
