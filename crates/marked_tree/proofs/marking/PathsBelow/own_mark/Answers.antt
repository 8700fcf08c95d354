use Rattle.std.proofs.Common.{refl, arith, subst, ◌<◌}
use Rattle.marked_tree.proofs.PathOrder.{none_ends_first}
use Rattle.marked_tree.proofs.marking.PathsBelow.own_mark.Goals as goal

pub returns-in_default-clause-own : goal.returns-in_default-clause-own
returns-in_default-clause-own c =
    rw (none_ends_first c.args.self.now.depth c.args.self.now.sorted.now c.in-Some.path.now c.in-Some.ensures.value c.requires.sorted (subst (λ n. c.args.self.now.depth < n) c.len.ensures c.if-len-self.false)) refl

pub returns-in_default-clause-next : goal.returns-in_default-clause-next
returns-in_default-clause-next c =
    rw (none_ends_first c.args.self.now.depth c.args.self.now.sorted.now c.in-Some.path.now c.in-Some.ensures.value c.requires.sorted (subst (λ n. c.args.self.now.depth < n) c.len.ensures c.if-len-self.false)) (omega arith)
