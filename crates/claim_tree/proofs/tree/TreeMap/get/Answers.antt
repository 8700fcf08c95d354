use Rattle.std.proofs.Common.{ap, ◌∙◌, sym}
use Rattle.claim_tree.specs.Tree.{member_named}
use Rattle.claim_tree.proofs.MapPlaces.{named_gap}
use Rattle.claim_tree.proofs.tree.TreeMap.get.Goals as goal

pub returns-in-Err : goal.returns-in-Err
returns-in-Err c =
    sym (named_gap c.members-members.result.now c.args.name.now c.in-Err.field-0 c.in-Err.ensures)
    ∙ ap (λ ms. member_named ms c.args.name.now) c.members-members.ensures.value
