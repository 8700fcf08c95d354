use Rattle.std.proofs.Common.{refl}
use Rattle.sdjwt_cli.specs.ShowSteps.{disclosure_shown}
use Rattle.sdjwt_cli.proofs.show.push_shown.Goals as goal

pub returns-clause-ok : goal.returns-clause-ok
returns-clause-ok c =
    let d = c.in_ok-read.read in
    record {
      shown = disclosure_shown c.args.hash c.args.part.now d;
      is = (refl, c.in_ok-read.ensures.ok.0, c.in_ok-read.ensures.ok.1);
      more = c.in_ok-push_read.ensures;
    }
