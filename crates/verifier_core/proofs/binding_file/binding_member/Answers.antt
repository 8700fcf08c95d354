use Rattle.claim_tree.specs.View.{tree_of}
use Rattle.file_members.specs.FileForms.{optional}
use Rattle.file_members.specs.declared.field.Field.TheVariants.{Binding}
use Rattle.file_members.proofs.FileMembers.{wrong_member}
use Rattle.verifier_core.specs.PolicyFile.{IsBindingPolicy}
use Rattle.verifier_core.proofs.binding_file.binding_member.Goals as goal

pub returns-in-None-clause-refused : goal.returns-in-None-clause-refused
returns-in-None-clause-refused c =
    let none = rw c.in-None.is at c.in_ok-binding.ensures.none in
    wrong_member (optional Binding (IsBindingPolicy c.args.version)) c.args.members.now c.word.result.now (tree_of c.in-Some.tree.now) c.word.ensures c.in-Some.ensures none
