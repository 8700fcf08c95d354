use Rattle.std.proofs.Common.{◌≢◌, List, IfNone, subst, sym}
use Rattle.claim_tree.specs.Tree.{Text, array}
use Rattle.file_members.specs.FileForms.{optional}
use Rattle.claim_tree.specs.TreeValues.{IsTexts, text_elements, HasValue}
use Rattle.claim_tree.specs.View.{tree_of}
use Rattle.claim_tree.specs.ListViews.{elements_of}
use Rattle.claim_tree.proofs.TreeValues.{no_list, odd_element}
use Rattle.file_members.proofs.FileMembers.{wrong_member}
use Rattle.file_members.proofs.members.text_list_member.Goals as goal

pub returns-in_default-tree : goal.returns-in_default-tree
returns-in_default-tree c =
    record {
      ok = tt;
      refused = wrong_member (optional c.args.field IsTexts) c.args.members.now c.word.result.now (tree_of c.in-Some.tree.now) c.word.ensures c.in-Some.ensures (no_list c.in-Some.tree.now c.in_default-tree.not-List);
    }

pub returns-in-None-clause-refused : goal.returns-in-None-clause-refused
returns-in-None-clause-refused c =
    let none : (texts : List Text) → text_elements texts ≢ elements_of c.trees.result.now = subst (λ o. IfNone o ((texts : List Text) → text_elements texts ≢ elements_of c.trees.result.now)) c.in-None.is c.in_ok-texts.ensures.none in
    let odd : HasValue IsTexts (array c.in-List.list) → ⊥ = odd_element c.in-List.list (subst (λ es. (texts : List Text) → text_elements texts ≢ es) c.trees.ensures.value none) in
    wrong_member (optional c.args.field IsTexts) c.args.members.now c.word.result.now (tree_of c.in-Some.tree.now) c.word.ensures c.in-Some.ensures (subst (λ t. HasValue IsTexts (tree_of t) → ⊥) (sym c.in-List.is) odd)
