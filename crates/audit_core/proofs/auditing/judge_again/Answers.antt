use Rattle.std.proofs.lemmas.Result.{IfErr-weaker, on_ok_weaker}
use Rattle.claim_tree.specs.View.{tree_of}
use Rattle.rebuild_core.specs.Payload.{without_alg}
use Rattle.audit_core.specs.Audit.{ContentDiffers}
use Rattle.audit_core.specs.Audited.{ShowsClaims, IsAuditedFor}
use Rattle.audit_core.specs.AuditSteps.{OnPart}
use Rattle.audit_core.proofs.Verdicts.{one_reading}
use Rattle.audit_core.proofs.auditing.judge_again.Goals as goal

pub returns-in-Some-clause-audited : goal.returns-in-Some-clause-audited
returns-in-Some-clause-audited c =
    let asked = c.args.asked.now in
    let written = c.in-Some.written in
    let read = rw c.in-Some.is at c.in_ok-written.ensures.some in
    on_ok_weaker c.judge_digests.result
    (λ f o body given is w. one_reading (λ p g. ShowsClaims o (without_alg p) g → IsAuditedFor o (without_alg p) g) asked.hash asked.hidden c.args.token.now.parts (tree_of written.body) body written.given given read w (f o is))
    (rw (c.bare.ensures.body, c.bare.ensures.given) at c.judge_digests.ensures.audited)

pub returns-in-Some-clause-differs : goal.returns-in-Some-clause-differs
returns-in-Some-clause-differs c =
    let asked = c.args.asked.now in
    let written = c.in-Some.written in
    let read = rw c.in-Some.is at c.in_ok-written.ensures.some in
    IfErr-weaker c.judge_digests.result _ _
    (λ e f o body given is w. one_reading (λ p g. ShowsClaims o (without_alg p) g → OnPart e (ContentDiffers o (without_alg p) g)) asked.hash asked.hidden c.args.token.now.parts (tree_of written.body) body written.given given read w (f o is))
    (rw (c.bare.ensures.body, c.bare.ensures.given) at c.judge_digests.ensures.differs)
