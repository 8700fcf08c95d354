use Rattle.std.proofs.Common.{ap, ap₂, ◌∙◌}
use Rattle.claim_tree.specs.Tree.{Text, Members, leaf, text, object, inserted}
use Rattle.digest_sites.specs.Reserved.{dots_name}
use Rattle.issuer_core.proofs.laying.digest_object.Goals as goal

pub returns : goal.returns
unfolding dots_name
returns c = ap object (c.in_ok-insert.ensures.ok ∙ ap₂ (λ (ms : Members) (name : Text). inserted ms name (leaf (text c.args.digest))) c.in_ok-object.ensures c.in_ok-make.ensures)
