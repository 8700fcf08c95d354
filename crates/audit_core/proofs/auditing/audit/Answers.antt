use Rattle.std.proofs.Common.{◌≡◌, ◌≤◌, sym, subst}
use Rattle.std.specs.Result.{OnOk, IfErr}
use Rattle.claim_tree.specs.Tree.{depth}
use Rattle.hmac_sign.specs.Algs.{alg_text}
use Rattle.issuer_core.specs.Order.{order_of}
use Rattle.audit_core.specs.Audit.{PassesAudit, FailsAudit}
use Rattle.audit_core.specs.AuditCalls.{IsAuditRefused, IsAuditCounted, IsAuditedWithin, IsAuditUnopened, IsBeforeOpening, IsSoundCounted, FromPart}
use Rattle.audit_core.proofs.auditing.audit.Goals as goal

pub audit_owned-requires : goal.audit_owned-requires
audit_owned-requires g c = record { depth = subst (λ o. depth o.payload ≤ 127) (sym c.in_ok-owned.ensures) c.requires.depth }

pub returns-clause-passes : goal.returns-clause-passes
returns-clause-passes g c =
    let good = g.K.Signatures.good c.args.checker.now in
    subst (λ o. OnOk c.audit_owned.result (PassesAudit o (alg_text c.args.alg) good c.args.text.now)) c.in_ok-owned.ensures
    (subst (λ a. OnOk c.audit_owned.result (PassesAudit (order_of c.in_ok-owned.owned) a good c.args.text.now)) c.alg_name.ensures
    c.audit_owned.ensures.passes)

pub returns-clause-refused : goal.returns-clause-refused
returns-clause-refused g c =
    let good = g.K.Signatures.good c.args.checker.now in
    subst (λ o. IfErr c.audit_owned.result (IsAuditRefused o (alg_text c.args.alg) good c.args.text.now)) c.in_ok-owned.ensures
    (subst (λ a. IfErr c.audit_owned.result (IsAuditRefused (order_of c.in_ok-owned.owned) a good c.args.text.now)) c.alg_name.ensures
    c.audit_owned.ensures.refused)

pub returns-clause-counted : goal.returns-clause-counted
returns-clause-counted g c =
    subst (λ o. FromPart 4 c.audit_owned.result (IsAuditCounted o c.args.text.now c.args.steps.now c.audit_owned.new.steps)) c.in_ok-owned.ensures c.audit_owned.ensures.counted

pub returns-clause-opened : goal.returns-clause-opened
returns-clause-opened g c =
    subst (λ o. FromPart 3 c.audit_owned.result (IsSoundCounted o c.args.text.now c.args.steps.now c.audit_owned.new.steps)) c.in_ok-owned.ensures c.audit_owned.ensures.opened

pub returns-clause-within : goal.returns-clause-within
returns-clause-within g c = subst (λ o. IsAuditedWithin o c.args.text.now c.args.steps.now c.audit_owned.new.steps) c.in_ok-owned.ensures c.audit_owned.ensures.within

pub returns-clause-uncounted : goal.returns-clause-uncounted
returns-clause-uncounted g c =
    let good = g.K.Signatures.good c.args.checker.now in
    let same = c.audit_owned.new.steps ≡ c.args.steps.now in
    subst (λ o. (error : _) → IsBeforeOpening error → FailsAudit o (alg_text c.args.alg) good c.args.text.now error → same)
    c.in_ok-owned.ensures
    (subst (λ a. (error : _) → IsBeforeOpening error → FailsAudit (order_of c.in_ok-owned.owned) a good c.args.text.now error → same)
    c.alg_name.ensures c.audit_owned.ensures.uncounted)

pub returns-clause-unopened : goal.returns-clause-unopened
returns-clause-unopened g c =
    let good = g.K.Signatures.good c.args.checker.now in
    let same = c.audit_owned.new.steps ≡ c.args.steps.now in
    subst (λ o. IsAuditUnopened o (alg_text c.args.alg) good c.args.text.now → same) c.in_ok-owned.ensures
    (subst (λ a. IsAuditUnopened (order_of c.in_ok-owned.owned) a good c.args.text.now → same) c.alg_name.ensures c.audit_owned.ensures.unopened)
