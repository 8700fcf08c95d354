use Rattle.std.proofs.Common.{◌∙◌, List, ℕ, sym, subst, arith}
use Rattle.compact_form.specs.Compact.{IsCompact, IsMisformedAt}
use Rattle.compact_form.proofs.Verdicts.{refused_form, refused_too_much, reads}
use Rattle.compact_form.proofs.compact_token.read_view.Goals as goal

pub returns-in-Err-clause-err : goal.returns-in-Err-clause-err
returns-in-Err-clause-err c =
    let short = sym c.is_too_long.ensures ∙ c.if-is_too_long.false in
    refused_form c.args.text.now _ c.in-Err.field-0.0 c.fault_at.ensures short (subst (λ (x : List ℕ). IsMisformedAt x c.in-Err.field-0.0) c.trim-token.ensures c.in-Err.ensures.err)

pub returns-then-count-gt-COUNT_MAX-clause-err : goal.returns-then-count-gt-COUNT_MAX-clause-err
returns-then-count-gt-COUNT_MAX-clause-err c =
    let short = sym c.is_too_long.ensures ∙ c.if-is_too_long.false in
    let spelled = subst (IsCompact c.in-Ok.view) c.trim-token.ensures c.in-Ok.ensures.ok in
    refused_too_much c.args.text.now _ c.in-Ok.view c.fault-then-count-gt-COUNT_MAX.ensures short spelled (omega (arith, c.count.ensures))

pub returns-clause-ok : goal.returns-clause-ok
returns-clause-ok c =
    let short = sym c.is_too_long.ensures ∙ c.if-is_too_long.false in
    let spelled = subst (IsCompact c.in-Ok.view) c.trim-token.ensures c.in-Ok.ensures.ok in
    reads c.args.text.now c.in-Ok.view short spelled (omega (arith, c.count.ensures))
