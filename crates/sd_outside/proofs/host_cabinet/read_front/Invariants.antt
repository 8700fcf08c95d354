use Rattle.std.proofs.Common.{◌≡◌, ◌+◌, length}
use Rattle.std.specs.Io.KnownBytes.{Consumes}
use Rattle.sd_outside.proofs.host_cabinet.read_front.Given as goal

-- what was read is what the file lost
abbrev pub invariant-loop-left : goal.invariant-loop-left
invariant-loop-left g l =
    (length l.bytes + l.left ≡ l.most)
    × Consumes (g.F.Read.remaining l.initial.file) (g.F.Read.remaining l.file) l.bytes

abbrev pub decreases-loop-left : goal.decreases-loop-left
decreases-loop-left g l = l.left
