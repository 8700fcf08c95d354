use Rattle.std.proofs.Common.{List, subst}
use Rattle.claim_tree.specs.Tree.{Text}
use Rattle.claim_tree.specs.View.{tree_of}
use Rattle.file_members.specs.FileForms.{optional}
use Rattle.file_members.proofs.FileMembers.{wrong_member}
use Rattle.claim_tree.specs.TreeValues.{IsListOf, IsPointer, EachSays}
use Rattle.claim_tree.proofs.ListForms.{other_than_list, list_without}
use Rattle.file_members.proofs.members.pointer_list_member.Goals as goal

pub returns-in_default-tree : goal.returns-in_default-tree
returns-in_default-tree c =
    record {
      ok = tt;
      refused = wrong_member (optional c.args.field (IsListOf IsPointer)) c.args.members.now c.word.result.now (tree_of c.in-Some.tree.now) c.word.ensures c.in-Some.ensures (other_than_list IsPointer c.in-Some.tree.now c.in_default-tree.not-List);
    }

pub returns-in-None-clause-refused : goal.returns-in-None-clause-refused
returns-in-None-clause-refused c =
    let none = rw c.in-None.is at c.in_ok-paths.ensures.none in
    let odd = subst (λ es. (xs : List (List Text)) → EachSays IsPointer es xs → ⊥) c.trees.ensures.value none in
    wrong_member (optional c.args.field (IsListOf IsPointer)) c.args.members.now c.word.result.now (tree_of c.in-Some.tree.now) c.word.ensures c.in-Some.ensures (list_without IsPointer c.in-Some.tree.now c.in-List.list c.in-List.is odd)
