use Rattle.std.proofs.Common.{◌≡◌, ◌<◌, ◌≤◌, ◌^◌, ap, subst, sym, ◌∙◌, arith}
use Rattle.sdjwt_cli.specs.GeneratedSteps.{with_member}
use Rattle.sdjwt_cli.proofs.GeneratedMembers.{PutsDigits, digits_begin, digits_more, digits_end}
use Rattle.sdjwt_cli.proofs.generated.members.Goals as goal

pub loop-digit-init : goal.loop-digit-init
loop-digit-init c =
    let some : 0 < c.args.count = omega (arith, c.if-count-eq0.false) in
    let fits : c.args.count ≤ 2 ^ 64 = omega (arith, c.ranges.count.fits) in
    subst (λ ms. PutsDigits c.args.count 1 ms) (sym (c.in_ok-put_member.ensures ∙ ap (with_member 0) c.new-members.ensures)) (digits_begin c.args.count some fits)

pub loop-digit-preserved : goal.loop-digit-preserved
loop-digit-preserved c =
    let l = c.loop-digit in
    let told = c.in_ok-put_from.ensures in
    let some : 0 < c.args.count = omega (arith, c.if-count-eq0.false) in
    digits_more c.args.count l.digit l.members c.put_from.new.members some l.invariant told.no_other told.kept told.put

pub returns : goal.returns
returns c =
    let l = c.loop-digit in
    let ends : l.digit ≡ 10 = omega (arith, l.auto.digit-end, c.loop-digit-test.false) in
    digits_end c.args.count l.members (subst (λ d. PutsDigits c.args.count d l.members) ends l.invariant)
