use Rattle.std.proofs.Common.{sym, arith}
use Rattle.std.proofs.lemmas.Bool.{leb-true}
use Rattle.issuer_core.proofs.PlacedDecoys.{all_end}
use Rattle.issuer_core.proofs.decoys.Decoys.end_here.Goals as goal

pub returns-in-Some : goal.returns-in-Some
returns-in-Some c h =
    let d = c.args.self.now in
    let short = leb-true c.len.result d.depth h in
    all_end d.depth d.paths.now d.digests.now c.in-Some.path.now c.requires.sorted (sym c.in-Some.ensures.value) (omega (arith, short, c.len.ensures))
