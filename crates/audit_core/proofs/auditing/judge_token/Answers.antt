use Rattle.std.proofs.Common.{inr, refl, arith}
use Rattle.std.proofs.lemmas.Result.{IfErr-weaker, on_ok_weaker}
use Rattle.claim_tree.specs.View.{tree_of}
use Rattle.issuer_core.specs.Order.{order_of}
use Rattle.audit_core.specs.Audit.{written_differs, content_differs}
use Rattle.audit_core.specs.Audited.{IsWrittenFor}
use Rattle.audit_core.proofs.Askeds.{written_for, written_with, not_early}
use Rattle.audit_core.proofs.LookedUp.{from_part_more, shown_counted}
use Rattle.audit_core.proofs.Verdicts.{on_part}
use Rattle.audit_core.proofs.auditing.judge_token.Given.{Over}
use Rattle.audit_core.proofs.auditing.judge_token.Goals.{In-Some}
use Rattle.audit_core.proofs.auditing.judge_token.Goals as goal

written : (g : Over) (c : In-Some g) → IsWrittenFor (order_of c.args.order) c.args.token.now.parts (tree_of c.in-Some.written.body) c.in-Some.written.given
written g c =
    written_for (order_of c.args.order) c.in_ok-asked.asked c.args.token.now.parts (tree_of c.in-Some.written.body) c.in-Some.written.given c.in_ok-asked.ensures.asked (rw c.in-Some.is at c.in_ok-written.ensures.some)

pub returns-in-Some-clause-audited : goal.returns-in-Some-clause-audited
returns-in-Some-clause-audited g c =
    on_ok_weaker c.judge_content.result
    (λ f. record { signed = c.in_ok-is_signed_for.ensures.0 c.if-not-branch.false; body = _; given = _; written = written g (goal.at.returns-in-Some-clause-audited g c).In-Some; audited = f (order_of c.args.order) c.in_ok-asked.ensures.asked })
    c.judge_content.ensures.audited

pub returns-in-Some-clause-differs : goal.returns-in-Some-clause-differs
returns-in-Some-clause-differs g c =
    IfErr-weaker c.judge_content.result _ _
    (λ e h. on_part e _ _ (λ k d. content_differs (c.in_ok-is_signed_for.ensures.0 c.if-not-branch.false) _ _ (written g (goal.at.returns-in-Some-clause-differs g c).In-Some) d) (h (order_of c.args.order) c.in_ok-asked.ensures.asked))
    c.judge_content.ensures.differs

pub returns-in-Some-clause-counted : goal.returns-in-Some-clause-counted
returns-in-Some-clause-counted g c =
    let o = order_of c.args.order in
    let is = c.in_ok-asked.ensures.asked in
    let r = c.judge_content.result in
    let audited = on_ok_weaker r (λ f. f o is) c.judge_content.ensures.audited in
    let differs = IfErr-weaker r _ _ (λ e f. f o is) c.judge_content.ensures.differs in
    from_part_more 4 r _ _ (λ counted. (_, _, written g (goal.at.returns-in-Some-clause-counted g c).In-Some, counted))
    (shown_counted o _ _ r _ audited differs c.judge_content.ensures.counted)

pub returns-in-Some-clause-opened : goal.returns-in-Some-clause-opened
returns-in-Some-clause-opened g c =
    from_part_more 3 c.judge_content.result _ _ (λ counted. (_, _, written g (goal.at.returns-in-Some-clause-opened g c).In-Some, counted)) c.judge_content.ensures.counted

pub returns-in-Some-clause-within : goal.returns-in-Some-clause-within
returns-in-Some-clause-within g c = inr (_, _, written g (goal.at.returns-in-Some-clause-within g c).In-Some, c.judge_content.ensures.risen)

pub returns-in-Some-clause-uncounted : goal.returns-in-Some-clause-uncounted
returns-in-Some-clause-uncounted g c k l d =
    not_early (order_of c.args.order) c.args.alg.now (g.K.Signatures.good c.args.checker.now) c.args.token.now _ _ k (c.in_ok-is_signed_for.ensures.0 c.if-not-branch.false) (written g (goal.at.returns-in-Some-clause-uncounted g c).In-Some) l d

pub returns-in-Some-clause-unsigned : goal.returns-in-Some-clause-unsigned
returns-in-Some-clause-unsigned g c unsigned = absurd (unsigned (c.in_ok-is_signed_for.ensures.0 c.if-not-branch.false))

pub returns-in-Some-clause-unwritten : goal.returns-in-Some-clause-unwritten
returns-in-Some-clause-unwritten g c unwritten = absurd (unwritten _ _ (written g (goal.at.returns-in-Some-clause-unwritten g c).In-Some))

pub returns-clause-differs : goal.returns-clause-differs
returns-clause-differs g c =
    let none = rw c.in-None.is at c.in_ok-written.ensures.none in
    rw c.differs-in-None.ensures
    (written_differs refl (c.in_ok-is_signed_for.ensures.0 c.if-not-branch.false)
    (λ body given w. none body given (written_with (order_of c.args.order) c.in_ok-asked.asked c.args.token.now.parts body given c.in_ok-asked.ensures.asked w)))

-- ---- the parts before the third

pub returns-then-not-branch-clause-counted : goal.returns-then-not-branch-clause-counted
returns-then-not-branch-clause-counted g c = rw c.differs.ensures (λ late. absurd (omega (arith, late)))

pub returns-then-not-branch-clause-opened : goal.returns-then-not-branch-clause-opened
returns-then-not-branch-clause-opened g c = rw c.differs.ensures (λ late. absurd (omega (arith, late)))

pub returns-clause-counted : goal.returns-clause-counted
returns-clause-counted g c = rw c.differs-in-None.ensures (λ late. absurd (omega (arith, late)))

pub returns-clause-opened : goal.returns-clause-opened
returns-clause-opened g c = rw c.differs-in-None.ensures (λ late. absurd (omega (arith, late)))
