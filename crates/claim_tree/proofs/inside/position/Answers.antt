use Rattle.std.proofs.Common.{◌≡◌, Some, None, decimal, sym, ap, ◌∙◌, arith, true≢false}
use Rattle.std.specs.Result.{result_ok}
use Rattle.std.proofs.lemmas.Fmt.{parse-decimal}
use Rattle.std.proofs.lemmas.Slice.Eq.{bytes_eq-Decides}
use Rattle.claim_tree.proofs.inside.position.Goals as goal

pub returns-in_err-i-clause-none : goal.returns-in_err-i-clause-none
returns-in_err-i-clause-none c none i below e =
    let parsed = parse-decimal 64 i c.args.step.now c.parse.result (omega (arith, below, c.ranges.len.fits)) (omega (arith, below, c.ranges.len.fits)) (sym e) c.parse.ensures.value.0 in
    let some : None ≡ Some i = c.in_err-i.ensures.value ∙ ap result_ok parsed in
    absurd (cc some)

pub returns-else-eq-clause-none : goal.returns-else-eq-clause-none
returns-else-eq-clause-none c none i below e =
    let parsed = parse-decimal 64 i c.args.step.now c.parse.result (omega (arith, below, c.ranges.len.fits)) (omega (arith, below, c.ranges.len.fits)) (sym e) c.parse.ensures.value.0 in
    let some : Some c.in_ok-i.i ≡ Some i = c.in_ok-i.ensures.value ∙ ap result_ok parsed in
    let one : c.in_ok-i.i ≡ i = cc some in
    let same : c.format.result.now ≡ c.args.step.now = c.format.ensures.text ∙ (ap decimal one ∙ e) in
    true≢false (sym ((bytes_eq-Decides c.format.result.now c.args.step.now).1 same) ∙ (sym c.eq.ensures ∙ c.if-eq.false))

pub returns-then-i-len-clause-none : goal.returns-then-i-len-clause-none
returns-then-i-len-clause-none c none i below e =
    let parsed = parse-decimal 64 i c.args.step.now c.parse.result (omega (arith, below, c.ranges.len.fits)) (omega (arith, below, c.ranges.len.fits)) (sym e) c.parse.ensures.value.0 in
    let some : Some c.in_ok-i.i ≡ Some i = c.in_ok-i.ensures.value ∙ ap result_ok parsed in
    let one : c.in_ok-i.i ≡ i = cc some in
    omega (arith, below, one, c.if-i-len.true)
