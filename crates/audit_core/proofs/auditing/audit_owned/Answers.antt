use Rattle.std.proofs.Common.{◌≡◌, sym, ap, refl, subst}
use Rattle.std.proofs.lemmas.Result.{IfErr-weaker, on_ok_weaker}
use Rattle.json_form.specs.Token.{IsToken}
use Rattle.issuer_core.specs.Order.{order_of}
use Rattle.audit_core.specs.Audit.{of_text}
use Rattle.audit_core.specs.declared.errors.AuditError.TheVariants.{Token as OnCondition}
use Rattle.audit_core.proofs.LookedUp.{from_part_more, order_from_part, token_counted, token_sound_counted, token_within, none_yet, unopened}
use Rattle.audit_core.proofs.Verdicts.{order_told, part_told, early_part}
use Rattle.audit_core.proofs.auditing.audit_owned.Goals as goal

pub returns-in-Err-clause-refused : goal.returns-in-Err-clause-refused
returns-in-Err-clause-refused g c = order_told _ _ _ _ c.in-Err.error c.in-Err.ensures.refused

pub returns-in-Err-Fault-clause-refused : goal.returns-in-Err-Fault-clause-refused
returns-in-Err-Fault-clause-refused g c =
    of_text c.in-Err-Fault.fault c.in-Ok.ensures.passes
    (c.in-Err-Fault.ensures.refused c.in-Err-Fault.fault (rw c.in-Err-Fault.field-0-is refl)) (ap OnCondition c.in-Err-Fault.fault-is)

pub returns-clause-refused : goal.returns-clause-refused
returns-clause-refused g c =
    let passes = c.in-Ok.ensures.passes in
    let read = subst (IsToken c.args.text.now) (sym c.view.ensures) c.in-Ok-read.ensures.ok in
    IfErr-weaker c.judge_token.result _ _ (λ e h. part_told (order_of c.args.order) c.args.alg.now (g.K.Signatures.good c.args.checker.now) c.args.text.now c.view.result passes read e h) c.judge_token.ensures.differs

pub returns-clause-uncounted : goal.returns-clause-uncounted
returns-clause-uncounted g c =
    let passes = c.in-Ok.ensures.passes in
    let read = subst (IsToken c.args.text.now) (sym c.view.ensures) c.in-Ok-read.ensures.ok in
    early_part (order_of c.args.order) c.args.alg.now (g.K.Signatures.good c.args.checker.now) c.args.text.now c.view.result passes read (c.judge_token.new.steps ≡ c.args.steps.now) c.judge_token.ensures.uncounted

-- ---- the look-ups

pub returns-in-Err-clause-counted : goal.returns-in-Err-clause-counted
returns-in-Err-clause-counted g c = order_from_part (Unit {0}) 4 c.in-Err.error (order_of c.args.order) _ c.in-Err.ensures.refused

pub returns-in-Err-clause-opened : goal.returns-in-Err-clause-opened
returns-in-Err-clause-opened g c = order_from_part (Unit {0}) 3 c.in-Err.error (order_of c.args.order) _ c.in-Err.ensures.refused

pub returns-clause-counted : goal.returns-clause-counted
returns-clause-counted g c =
    let read = subst (IsToken c.args.text.now) (sym c.view.ensures) c.in-Ok-read.ensures.ok in
    from_part_more 4 c.judge_token.result _ _ (token_counted (order_of c.args.order) c.args.text.now c.view.result read c.args.steps.now c.judge_token.new.steps) c.judge_token.ensures.counted

pub returns-clause-opened : goal.returns-clause-opened
returns-clause-opened g c =
    let read = subst (IsToken c.args.text.now) (sym c.view.ensures) c.in-Ok-read.ensures.ok in
    from_part_more 3 c.judge_token.result _ _ (token_sound_counted (order_of c.args.order) c.args.text.now c.view.result read c.args.steps.now c.judge_token.new.steps) c.judge_token.ensures.opened

pub returns-clause-within : goal.returns-clause-within
returns-clause-within g c =
    let read = subst (IsToken c.args.text.now) (sym c.view.ensures) c.in-Ok-read.ensures.ok in
    token_within (order_of c.args.order) c.args.text.now c.view.result read c.args.steps.now c.judge_token.new.steps c.judge_token.ensures.within

pub returns-clause-passes : goal.returns-clause-passes
returns-clause-passes g c =
    let read = subst (IsToken c.args.text.now) (sym c.view.ensures) c.in-Ok-read.ensures.ok in
    on_ok_weaker c.judge_token.result (λ audited. record { passes = c.in-Ok.ensures.passes; token = c.view.result; is_token = read; audited = audited }) c.judge_token.ensures.audited

pub returns-clause-none_yet : goal.returns-clause-none_yet
returns-clause-none_yet g c =
    let o = order_of c.args.order in
    let good = g.K.Signatures.good c.args.checker.now in
    let same = c.judge_token.new.steps ≡ c.args.steps.now in
    let passes = c.in-Ok.ensures.passes in
    let read = subst (IsToken c.args.text.now) (sym c.view.ensures) c.in-Ok-read.ensures.ok in
    let early = early_part o c.args.alg.now good c.args.text.now c.view.result passes read same c.judge_token.ensures.uncounted in
    IfErr-weaker c.judge_token.result _ _
    (λ e h. none_yet o c.args.alg.now good c.args.text.now same early e (part_told o c.args.alg.now good c.args.text.now c.view.result passes read e h)) c.judge_token.ensures.differs

pub returns-clause-unopened : goal.returns-clause-unopened
returns-clause-unopened g c =
    let read = subst (IsToken c.args.text.now) (sym c.view.ensures) c.in-Ok-read.ensures.ok in
    unopened (order_of c.args.order) c.args.alg.now (g.K.Signatures.good c.args.checker.now) c.args.text.now (c.judge_token.new.steps ≡ c.args.steps.now) c.view.result c.in-Ok.ensures.passes read c.judge_token.ensures.unsigned
    c.judge_token.ensures.unwritten
