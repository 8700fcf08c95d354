use Rattle.std.proofs.Common.{sym, ap, ◌∙◌}
use Rattle.claim_tree.specs.Tree.{object}
use Rattle.claim_tree.specs.View.{tree_of}
use Rattle.rebuild_core.specs.Payload.{alg_name, without_alg}
use Rattle.rebuild_core.proofs.unhidden.without_alg.Goals as goal

pub returns-in-Object : goal.returns-in-Object
unfolding alg_name
returns-in-Object c =
    ap object c.remove.ensures.others ∙ ap (λ p. without_alg (tree_of p)) (sym c.in-Object.is)
