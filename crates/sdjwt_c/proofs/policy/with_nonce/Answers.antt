use Rattle.sd_outside.specs.Status.{status_number}
use Rattle.sdjwt_c.proofs.NonceSetting.{nonce_told}
use Rattle.sdjwt_c.proofs.policy.with_nonce.Goals as goal

pub returns : goal.returns
returns c = nonce_told c.args.policy.now c.set_nonce.new.self c.args.nonce.now (status_number c.nonce_status.result) c.utf8.nonce c.set_nonce.result c.set_nonce.ensures.ok c.set_nonce.ensures.no_binding c.set_nonce.ensures.too_long c.set_nonce.ensures.kept c.nonce_status.ensures
