use Rattle.std.proofs.Common.{ap, ◌∙◌, sym, subst}
use Rattle.claim_tree.specs.Tree.{ElementsOrdered}
use Rattle.marked_tree.specs.Marked.{strip_elements}
use Rattle.marked_tree.specs.MarkedCalls.{marked_pushed}
use Rattle.marked_tree.specs.View.{marked_of, marked_elements_of}
use Rattle.marked_tree.proofs.MarkedViews.{marked_elements_of-push, ordered-marked_pushed}
use Rattle.marked_tree.proofs.marked.MarkedList.push.Goals as goal

pub invariant_of-self-2 : goal.invariant_of-self-2
invariant_of-self-2 c =
    let grown = ap marked_elements_of c.in_ok-push.ensures.items ∙ marked_elements_of-push c.self.inside.elements.items c.args.mark c.args.tree in
    subst (λ es. ElementsOrdered (strip_elements es)) (sym grown) (ordered-marked_pushed (marked_elements_of c.self.inside.elements.items) c.args.mark (marked_of c.args.tree) c.self.invariant c.invariant.ensures)

pub returns-clause-ok : goal.returns-clause-ok
returns-clause-ok c =
    ap marked_elements_of c.in_ok-push.ensures.items ∙ marked_elements_of-push c.self.inside.elements.items c.args.mark c.args.tree ∙ ap (λ es. marked_pushed es c.args.mark (marked_of c.args.tree)) c.self.view_is
