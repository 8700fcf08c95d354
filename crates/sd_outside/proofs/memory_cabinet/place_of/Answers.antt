use Rattle.std.proofs.Common.{arith, add-one, get_or, ◌≡◌, false}
use Rattle.std.specs.Prelude.{bytes_eq}
use Rattle.sd_outside.proofs.Files.{none_more}
use Rattle.sd_outside.proofs.memory_cabinet.place_of.Goals as goal

pub loop-i-preserved : goal.loop-i-preserved
loop-i-preserved c =
    let file = c.index-files-i.result in
    let differs : bytes_eq file.0 c.args.name.now ≡ false = cc in
    let at : bytes_eq (get_or c.args.files.now c.loop-i.i file).0 c.args.name.now ≡ false = rw (← c.index-files-i.is) differs in
    rw add-one (none_more c.args.files.now c.loop-i.i file c.args.name.now (omega arith) c.loop-i.invariant at)
