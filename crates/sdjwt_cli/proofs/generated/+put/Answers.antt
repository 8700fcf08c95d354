use Rattle.std.proofs.Common.{◌≡◌, ◌<◌, ◌≤◌, ◌^◌, subst, sym, arith}
use Rattle.sdjwt_cli.proofs.GeneratedMembers.{PutsBehind, not_below, puts_own, puts_next, puts_all}
use Rattle.sdjwt_cli.proofs.generated.+put.Goals as goal

pub returns-then-first-from-clause-put : goal.returns-then-first-from-clause-put
returns-then-first-from-clause-put t c i l b =
    let great : c.args.count ≤ c.args.first = omega (arith, c.if-first-from.true, c.from.ensures) in
    absurd (not_below c.args.first c.args.count i b great l)

pub loop-digit-init : goal.loop-digit-init
loop-digit-init t c =
    let a = c.args in
    let low : a.first < a.count = omega (arith, c.if-first-from.false, c.from.ensures) in
    let fits : a.count ≤ 2 ^ 64 = omega (arith, c.ranges.count.fits) in
    subst (λ ms. PutsBehind a.count a.first 0 a.members.now ms) (sym c.in_ok-put_member.ensures) (puts_own a.count a.first low fits a.members.now c.requires.no_other)

pub loop-digit-preserved : goal.loop-digit-preserved
loop-digit-preserved t c =
    let a = c.args in
    let l = c.loop-digit in
    let told = c.in_ok-put_from.ensures in
    let low : a.first < a.count = omega (arith, c.if-first-from.false, c.from.ensures) in
    puts_next a.count a.first l.digit a.members.now l.members c.put_from.new.members low l.invariant told.no_other told.kept told.put

pub returns-clause-put : goal.returns-clause-put
returns-clause-put t c =
    let l = c.loop-digit in
    let ends : l.digit ≡ 10 = omega (arith, l.auto.digit-end, c.loop-digit-test.false) in
    puts_all c.args.count c.args.first c.args.members.now l.members (subst (λ d. PutsBehind c.args.count c.args.first d c.args.members.now l.members) ends l.invariant)
