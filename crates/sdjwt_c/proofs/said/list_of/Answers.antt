-- No texts are those of the list that was read, nor of a text that has a number with a fraction.
use Rattle.std.proofs.Common.{subst}
use Rattle.claim_tree.specs.JsonRefusals.{IsReadRefused}
use Rattle.claim_tree.specs.JsonText.{Reads}
use Rattle.claim_tree.specs.View.{tree_of}
use Rattle.claim_tree.specs.declared.tree.Tree as owned
use Rattle.claim_tree.proofs.OneTree.{is_whole}
use Rattle.sdjwt_c.proofs.ListTexts.{none_found}
use Rattle.sdjwt_c.proofs.said.list_of.Goals as goal

pub returns-in-Ok-List-clause-none : goal.returns-in-Ok-List-clause-none
returns-in-Ok-List-clause-none c =
    let bytes = c.args.text.now in
    none_found bytes c.in-Ok-List.list c.trees.result.now (subst (λ (t : owned.Tree). Reads bytes (tree_of t)) c.in-Ok-List.field-0-is c.in-Ok-List.ensures.ok) c.trees.ensures.value c.texts_of.result c.texts_of.ensures.none

pub returns-clause-none : goal.returns-clause-none
returns-clause-none c texts is = is_whole c.args.text.now is.tree is.reads (subst (IsReadRefused c.args.text.now) c.in-Err-NotWhole.field-0-is c.in-Err-NotWhole.ensures.unread)
