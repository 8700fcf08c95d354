use Rattle.std.proofs.Common.{Some, option_map, ap, ◌∙◌}
use Rattle.serde_json.specs.Data.{number}
use Rattle.serde_json.specs.Find.{of_integer}
use Rattle.claim_tree.specs.Passes.{seen}
use Rattle.claim_tree.proofs.Datas.{whole_no_float}
use Rattle.claim_tree.proofs.Passes.{whole_number}
use Rattle.claim_tree.proofs.build.number_tree.Goals as goal

pub returns-in-Ok-clause-ok : goal.returns-in-Ok-clause-ok
returns-in-Ok-clause-ok c =
    ap (option_map (λ n. seen c.args.pass (number n))) c.in-Ok.ensures.value ∙ ap Some (whole_number c.args.pass (of_integer c.in-Ok.whole) (whole_no_float c.in-Ok.whole))
