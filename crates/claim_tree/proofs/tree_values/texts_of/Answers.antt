use Rattle.std.proofs.Common.{◌≡◌, take, ap, sym, ◌∙◌}
use Rattle.claim_tree.specs.Tree.{leaf, text}
use Rattle.claim_tree.specs.TreeCalls.{pushed}
use Rattle.claim_tree.specs.View.{tree_of}
use Rattle.claim_tree.specs.ListViews.{elements_of}
use Rattle.claim_tree.proofs.Walks.{elements_turn}
use Rattle.claim_tree.proofs.TreeValues.{no_texts, text_elements-push}
use Rattle.claim_tree.proofs.tree_values.texts_of.Goals as goal

pub returns-in_default : goal.returns-in_default
returns-in_default c =
    record {
      texts = tt;
      none = no_texts c.args.trees.now c.loop-tree.tree-index c.tree-item.result c.loop-tree-test.true c.tree-item.is c.in_default.not-Text;
    }

pub loop-tree-preserved : goal.loop-tree-preserved
loop-tree-preserved c =
    let turn = elements_turn c.args.trees.now c.loop-tree.tree-index c.tree-item.result c.loop-tree-test.true c.tree-item.is in
    let same : leaf (text c.in_ok-make.field-0) ≡ tree_of c.tree-item.result = ap (λ s. leaf (text s)) (c.in_ok-make.ensures ∙ c.as_str.ensures) ∙ sym (ap tree_of c.in-Text.is) in
    rw (turn, c.in_ok-push.ensures.ok) (text_elements-push c.loop-tree.texts c.in_ok-make.field-0 ∙ (ap (λ es. pushed es (leaf (text c.in_ok-make.field-0))) c.loop-tree.invariant ∙ ap (pushed (elements_of (take c.loop-tree.tree-index c.args.trees.now))) same))
