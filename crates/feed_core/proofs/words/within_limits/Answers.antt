use Rattle.std.proofs.Common.{arith}
use Rattle.std.proofs.lemmas.Fmt.{decimal_injective}
use Rattle.feed_core.proofs.words.within_limits.Goals as goal
use Rattle.feed_core.proofs.words.within_limits.Goals.{then-most-eq0-via-then-most-eq0, then-most-eq0-via-else-most-eq0+then-most-gt-MOST_MAX}

pub returns-then-most-eq0-clause-none : goal.returns-then-most-eq0-clause-none
returns-then-most-eq0-clause-none c none other low high same =
    let one = decimal_injective other c.args.most (omega (arith, high)) (omega (arith, c.ranges.most.fits)) same in
    elim c.then-most-eq0.branch [
      | then-most-eq0-via-then-most-eq0 w ↦ omega (arith, one, low, w.if-most-eq0.true)
      | then-most-eq0-via-else-most-eq0+then-most-gt-MOST_MAX w ↦ omega (arith, one, high, w.if-most-gt-MOST_MAX.true)
    ]
