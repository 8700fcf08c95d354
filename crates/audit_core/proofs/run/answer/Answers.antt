use Rattle.std.proofs.Common.{sym}
use Rattle.cli_parts.proofs.Finished.{reply_more}
use Rattle.audit_core.specs.AuditRun.{AuditAnswers, AuditsFiles}
use Rattle.audit_core.proofs.run.answer.Goals as goal

pub returns-clause-replies : goal.returns-clause-replies
returns-clause-replies g c =
    let token = c.args.token.now in
    reply_more (AuditAnswers c.bytes.result.now c.bytes-2.result.now) (AuditsFiles (g.C.Cabinet.holds c.args.cab.now) c.args.order.now token)
    (λ reply h. record {
      order_file = c.bytes.result.now;
      token_file = c.bytes-2.result.now;
      order_fetched = rw c.bytes.ensures c.in_ok-order.ensures.content;
      token_fetched = rw (sym (c.in_ok-order.ensures.held token), c.bytes-2.ensures) c.in_ok-token.ensures.content;
      answers = h;
    })
    c.audit_files.result c.audit_files.ensures.replies
