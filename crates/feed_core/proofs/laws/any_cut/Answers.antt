use Rattle.feed_core.proofs.AnyCut as cuts
use Rattle.feed_core.proofs.laws.any_cut.Goals as goal

pub returns : goal.returns
returns c = record {
  goes_on = λ start middle last piece next text more first second. cuts.goes_on start last piece next text more middle first second;
  one_step = cuts.one_step;
  one_text = cuts.one_text;
}
