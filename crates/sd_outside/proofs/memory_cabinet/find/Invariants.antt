use Rattle.std.proofs.Common.{◌≡◌, drop}
use Rattle.sd_outside.specs.Memory.{content_of}
use Rattle.sd_outside.proofs.memory_cabinet.find.Given as goal

abbrev pub invariant-loop-file : goal.invariant-loop-file
invariant-loop-file l = content_of (drop l.file-index l.files) l.name ≡ content_of l.files l.name
