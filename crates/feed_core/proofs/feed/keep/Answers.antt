use Rattle.std.proofs.Common.{arith}
use Rattle.std.proofs.lemmas.Grind.{common_steps}
use Rattle.feed_core.proofs.Ends.{kept_more}
use Rattle.feed_core.proofs.feed.keep.Goals as goal

pub returns-clause-kept : goal.returns-clause-kept
returns-clause-kept c = grind (arith, common_steps, kept_more c.args.rest.now.items c.args.bytes.now c.requires)
