use Rattle.claim_tree.specs.View.{tree_of}
use Rattle.file_members.specs.FileForms.{optional}
use Rattle.file_members.specs.declared.field.Field.TheVariants.{Binding}
use Rattle.file_members.proofs.FileMembers.{wrong_member}
use Rattle.holder_core.specs.PresentFile.{IsBindingOrder}
use Rattle.holder_core.proofs.present_file.binding_member.Goals as goal

pub returns-in-None-clause-refused : goal.returns-in-None-clause-refused
returns-in-None-clause-refused c =
    let none = rw c.in-None.is at c.in_ok-order.ensures.none in
    wrong_member (optional Binding IsBindingOrder) c.args.members.now c.word.result.now (tree_of c.in-Some.tree.now) c.word.ensures c.in-Some.ensures none
