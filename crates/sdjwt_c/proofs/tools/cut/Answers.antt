use Rattle.sdjwt_c.proofs.Cutting.{piece_fits}
use Rattle.sdjwt_c.proofs.tools.cut.Goals as goal

pub split_at-requires : goal.split_at-requires
split_at-requires c = piece_fits c.args.lengths.now c.args.text.now c.loop-length.rest.now c.loop-length.length-index c.loop-length-test.true c.loop-length.invariant.1 c.requires
