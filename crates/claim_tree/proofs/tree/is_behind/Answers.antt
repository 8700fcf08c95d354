use Rattle.std.proofs.Common.{ap, ◌∙◌, sym}
use Rattle.std.specs.Ordering.{is_lt}
use Rattle.claim_tree.proofs.MapPlaces.{last_gap}
use Rattle.claim_tree.proofs.tree.is_behind.Goals as goal

pub returns-in-Some : goal.returns-in-Some
returns-in-Some c behind =
    last_gap c.args.members.now c.args.name.now c.in-Some.last.now c.requires c.in-Some.ensures.item.3.1 (ap is_lt (sym c.compared.ensures) ∙ sym c.is_lt.ensures ∙ behind)
