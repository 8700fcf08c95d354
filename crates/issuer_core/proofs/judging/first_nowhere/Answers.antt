use Rattle.std.proofs.Common.{sym, ◌∙◌}
use Rattle.claim_tree.specs.View.{tree_of}
use Rattle.issuer_core.specs.Judging.{is_nowhere}
use Rattle.issuer_core.proofs.DifferentPlaces.{none_of_all}
use Rattle.issuer_core.proofs.judging.first_nowhere.Goals as goal

pub returns-in-None : goal.returns-in-None
returns-in-None c = sym (none_of_all (is_nowhere (tree_of c.args.payload.now)) c.args.different.now c.args.hide.now c.requires (sym c.nowhere_in.ensures ∙ c.in-None.is))
