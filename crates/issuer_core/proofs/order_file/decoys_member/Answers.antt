use Rattle.std.proofs.Common.{List, subst}
use Rattle.claim_tree.specs.View.{tree_of}
use Rattle.file_members.specs.FileForms.{optional}
use Rattle.file_members.specs.declared.field.Field.TheVariants.{Decoys}
use Rattle.file_members.proofs.FileMembers.{wrong_member}
use Rattle.claim_tree.specs.TreeValues.{IsListOf, EachSays}
use Rattle.issuer_core.specs.OrderFile.{IsDecoy}
use Rattle.issuer_core.specs.declared.order.Decoy.{Decoy}
use Rattle.claim_tree.proofs.ListForms.{other_than_list, list_without}
use Rattle.issuer_core.proofs.order_file.decoys_member.Goals as goal

pub returns-in_default-tree : goal.returns-in_default-tree
returns-in_default-tree c =
    record {
      ok = tt;
      refused = wrong_member (optional Decoys (IsListOf IsDecoy)) c.args.members.now c.word.result.now (tree_of c.in-Some.tree.now) c.word.ensures c.in-Some.ensures (other_than_list IsDecoy c.in-Some.tree.now c.in_default-tree.not-List);
    }

pub returns-in-None-clause-refused : goal.returns-in-None-clause-refused
returns-in-None-clause-refused c =
    let none = rw c.in-None.is at c.in_ok-decoys.ensures.none in
    let odd = subst (λ es. (xs : List Decoy) → EachSays IsDecoy es xs → ⊥) c.trees.ensures.value none in
    wrong_member (optional Decoys (IsListOf IsDecoy)) c.args.members.now c.word.result.now (tree_of c.in-Some.tree.now) c.word.ensures c.in-Some.ensures (list_without IsDecoy c.in-Some.tree.now c.in-List.list c.in-List.is odd)
