use Rattle.std.proofs.Common.{Err, ap}
use Rattle.claim_tree.specs.View.{tree_of}
use Rattle.file_members.specs.FileForms.{required}
use Rattle.file_members.proofs.FileMembers.{wrong_member}
use Rattle.hmac_sign.specs.Keys.{IsKeySet}
use Rattle.hmac_sign.proofs.KeySetVerdicts.{not_read}
use Rattle.hmac_sign.proofs.file_keys.keys_member.Goals as goal

pub returns-in_default-error : goal.returns-in_default-error
returns-in_default-error c =
    let t = tree_of c.in-Some.tree.now in
    let told = c.in-Err.ensures in
    record {
      ok = tt;
      refused = wrong_member (required c.args.field IsKeySet) c.args.members.now c.word.result.now t c.word.ensures c.in-Some.ensures
          (λ set. not_read t c.in-Err.error (λ e. told.not_a_set (ap Err e)) (λ place e. told.not_base64 place (ap Err e)) (λ place e. told.short place (ap Err e)) c.in_default-error.not-Memory set.0 set.1);
    }
