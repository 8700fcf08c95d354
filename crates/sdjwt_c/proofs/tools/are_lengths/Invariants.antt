use Rattle.std.proofs.Common.{◌≡◌, ◌+◌, length, take}
use Rattle.std.specs.List.{sum}
use Rattle.sdjwt_c.proofs.tools.are_lengths.Given as goal

abbrev pub invariant-loop-length : goal.invariant-loop-length
invariant-loop-length l = sum (take l.length-index l.lengths) + l.rest ≡ length l.text
