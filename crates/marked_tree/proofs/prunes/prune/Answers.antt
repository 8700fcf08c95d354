use Rattle.std.proofs.Common.{◌≤◌, sym, subst}
use Rattle.std.proofs.lemmas.Result.{IfOk-weaker}
use Rattle.claim_tree.specs.Tree.{depth}
use Rattle.marked_tree.specs.Marked.{strip, kept}
use Rattle.marked_tree.specs.Numbers.{has}
use Rattle.marked_tree.specs.View.{marked_of}
use Rattle.marked_tree.proofs.Remarks.{depth-remark}
use Rattle.marked_tree.proofs.prunes.prune.Goals as goal

pub returns-clause-shallow : goal.returns-clause-shallow
returns-clause-shallow c =
    IfOk-weaker c.prune_tree.result _ _
    (λ pruned e. subst (λ m. depth (strip m) ≤ depth (strip (marked_of c.args.tree.now))) (sym e) (depth-remark (kept (has c.args.kept.now)) (marked_of c.args.tree.now))) c.prune_tree.ensures
