use Rattle.std.proofs.Common.{◌∙◌}
use Rattle.audit_core.proofs.Parts.{put_turned}
use Rattle.audit_core.proofs.known.add.Goals as goal

pub returns : goal.returns
returns c = λ other. c.in_ok-insert.ensures.updates.0 (record c.args.digest { now = other }) ∙ put_turned c.args.digest.now other _
