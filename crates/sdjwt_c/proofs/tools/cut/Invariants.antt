use Rattle.std.proofs.Common.{◌≡◌, ◌+◌, ◌++◌, length, take, drop}
use Rattle.std.specs.List.{sum}
use Rattle.sdjwt_c.specs.Tokens.{pieces}
use Rattle.sdjwt_c.proofs.tools.cut.Given as goal

abbrev pub invariant-loop-length : goal.invariant-loop-length
invariant-loop-length l =
    (l.held ++ pieces (drop l.length-index l.lengths) l.rest ≡ pieces l.lengths l.text) × (sum (take l.length-index l.lengths) + length l.rest ≡ length l.text)
