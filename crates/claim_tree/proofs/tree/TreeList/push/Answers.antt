use Rattle.std.proofs.Common.{[], ◌∷◌, ◌++◌, ap, ◌∙◌, sym, subst}
use Rattle.claim_tree.specs.Tree.{ElementsOrdered, ElementsRanged}
use Rattle.claim_tree.specs.TreeCalls.{pushed}
use Rattle.claim_tree.specs.View.{tree_of}
use Rattle.claim_tree.specs.ListViews.{elements_of}
use Rattle.claim_tree.proofs.Datas.{ElementsRanged-pushed}
use Rattle.claim_tree.proofs.Views.{elements_of-push, ordered-pushed}
use Rattle.claim_tree.proofs.tree.TreeList.push.Goals as goal

pub invariant_of-self-2 : goal.invariant_of-self-2
invariant_of-self-2 c =
    let grown = ap elements_of (c.in_ok-push.ensures.items ∙ ap (λ ts. ts ++ c.args.tree ∷ []) c.make_room.ensures) ∙ elements_of-push c.self.inside.trees.items c.args.tree in
    let es = elements_of c.self.inside.trees.items in
    let t = tree_of c.args.tree in (
      subst ElementsOrdered (sym grown) (ordered-pushed es t c.self.invariant.0 c.invariant.ensures.ordered),
      subst ElementsRanged (sym grown) (ElementsRanged-pushed es t c.self.invariant.1 c.invariant.ensures.ranged),
    )

pub returns-clause-ok : goal.returns-clause-ok
returns-clause-ok c =
    ap elements_of (c.in_ok-push.ensures.items ∙ ap (λ ts. ts ++ c.args.tree ∷ []) c.make_room.ensures) ∙ elements_of-push c.self.inside.trees.items c.args.tree ∙ ap (λ es. pushed es (tree_of c.args.tree)) c.self.view_is
