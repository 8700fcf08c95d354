use Rattle.std.proofs.Common.{sym, ap, ap₂, ◌∙◌}
use Rattle.claim_tree.specs.Tree.{Text, leaf, text, object, inserted}
use Rattle.claim_tree.specs.View.{tree_of}
use Rattle.rebuild_core.specs.Payload.{alg_name}
use Rattle.issuer_core.specs.Laid.{with_alg}
use Rattle.issuer_core.proofs.laying.with_alg.Goals as goal

pub returns-in_ok-insert-in-Object : goal.returns-in_ok-insert-in-Object
unfolding alg_name
returns-in_ok-insert-in-Object c =
    ap object
    (c.in_ok-insert-in-Object.ensures.ok ∙ ap₂ (λ (name value : Text). inserted c.in-Object.members name (leaf (text value))) c.in_ok-name-in-Object.ensures (c.in_ok-make-in-Object.ensures ∙ c.name.ensures))
    ∙ sym (ap (λ t. with_alg c.args.hash (tree_of t)) c.in-Object.is)
