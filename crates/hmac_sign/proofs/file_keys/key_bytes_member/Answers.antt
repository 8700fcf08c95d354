use Rattle.claim_tree.specs.View.{tree_of}
use Rattle.file_members.specs.FileForms.{required}
use Rattle.file_members.proofs.FileMembers.{wrong_member}
use Rattle.hmac_sign.specs.KeyText.{IsKeyBytes}
use Rattle.hmac_sign.proofs.file_keys.key_bytes_member.Goals as goal

pub returns-in-None-clause-refused : goal.returns-in-None-clause-refused
returns-in-None-clause-refused c =
    let none = rw c.in-None.is at c.in_ok-bytes.ensures.none in
    wrong_member (required c.args.field IsKeyBytes) c.args.members.now c.word.result.now (tree_of c.in-Some.tree.now) c.word.ensures c.in-Some.ensures none
