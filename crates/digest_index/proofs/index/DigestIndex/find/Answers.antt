use Rattle.std.proofs.Common.{ap, ◌∙◌}
use Rattle.digest_index.specs.Index.{position_of}
use Rattle.digest_index.proofs.Keys.{position_of-texts}
use Rattle.digest_index.proofs.index.DigestIndex.find.Goals as goal

pub returns-clause-position : goal.returns-clause-position
returns-clause-position c = c.get_index_of.ensures.index ∙ position_of-texts c.args.text.now c.self.inside.texts.keys ∙ ap (position_of c.args.text.now) c.self.view_is
