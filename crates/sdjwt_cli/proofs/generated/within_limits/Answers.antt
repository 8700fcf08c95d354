use Rattle.std.proofs.Common.{inl, inr, sym, arith}
use Rattle.sdjwt_cli.proofs.GeneratedWords.{counted_some, counted_other}
use Rattle.sdjwt_cli.proofs.generated.within_limits.Goals as goal
use Rattle.sdjwt_cli.proofs.generated.within_limits.Goals.{then-count-eq0-via-then-count-eq0, then-count-eq0-via-else-count-eq0+then-count-gt-MEMBERS_MAX}

pub returns-then-count-eq0 : goal.returns-then-count-eq0
returns-then-count-eq0 c word is =
    sym
    (counted_other c.args.count word (omega (arith, c.ranges.count.fits)) is
    (elim c.then-count-eq0.branch [
      | then-count-eq0-via-then-count-eq0 w ↦ inl (omega (arith, w.if-count-eq0.true))
      | then-count-eq0-via-else-count-eq0+then-count-gt-MEMBERS_MAX w ↦ inr (omega (arith, w.if-count-gt-MEMBERS_MAX.true))
    ]))

pub returns : goal.returns
returns c word is = sym (counted_some c.args.count word is (omega (arith, c.if-count-eq0.false)) (omega (arith, c.if-count-gt-MEMBERS_MAX.false)))
