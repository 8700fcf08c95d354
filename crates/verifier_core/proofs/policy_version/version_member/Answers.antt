use Rattle.claim_tree.specs.View.{tree_of}
use Rattle.file_members.specs.FileForms.{optional}
use Rattle.file_members.specs.declared.field.Field.TheVariants.{Version}
use Rattle.file_members.proofs.FileMembers.{wrong_member}
use Rattle.verifier_core.specs.PolicyVersion.{IsVersion}
use Rattle.verifier_core.proofs.policy_version.version_member.Goals as goal

pub returns-in-None-clause-refused : goal.returns-in-None-clause-refused
returns-in-None-clause-refused c =
    wrong_member (optional Version IsVersion) c.args.members.now c.word.result.now (tree_of c.in-Some.tree.now) c.word.ensures c.in-Some.ensures c.in-None.ensures.none
