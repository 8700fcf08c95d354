-- What the audit answers is handed over.
use Rattle.audit_core.specs.AuditRun.{AuditAnswers}
use Rattle.sdjwt_c.proofs.Handing.{handed_reply}
use Rattle.sdjwt_c.proofs.tools.sdjwt_audit.Goals as goal

pub returns : goal.returns
returns c = handed_reply ⊥ (λ m. m) (λ reply. AuditAnswers c.args.order.now c.args.token.now reply) c.args.room.now c.hand.new.room c.hand.new.len c.number.result c.hand.result c.number.ensures
    c.audit_files.result c.audit_files.ensures.replies c.audit_files.ensures.read c.hand.ensures
