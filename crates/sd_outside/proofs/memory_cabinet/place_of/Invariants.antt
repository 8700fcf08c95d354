use Rattle.std.proofs.Common.{◌≡◌, take, None}
use Rattle.sd_outside.specs.Memory.{content_of}
use Rattle.sd_outside.proofs.memory_cabinet.place_of.Given as goal

abbrev pub invariant-loop-i : goal.invariant-loop-i
invariant-loop-i l = content_of (take l.i l.files) l.name ≡ None
