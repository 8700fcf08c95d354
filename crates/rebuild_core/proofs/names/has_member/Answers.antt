use Rattle.std.proofs.Common.{ap, ◌∙◌, sym}
use Rattle.claim_tree.specs.Tree.{member_named}
use Rattle.claim_tree.specs.View.{tree_of}
use Rattle.rebuild_core.proofs.ClashNames.{beside_found, beside_missed}
use Rattle.rebuild_core.proofs.names.has_member.Goals as goal
use Rattle.rebuild_core.proofs.names.has_member.Goals.{then-top, else-top}

pub returns-after-top : goal.returns-after-top
returns-after-top c =
    beside_found (λ t. tree_of t.now) c.get.result c.args.members.now c.args.name.now c.args.top c.if-top.result (c.get.ensures ∙ ap (member_named c.args.members.now) c.as_str.ensures)
    (sym c.is_some.ensures ∙ c.if-is_some.true)
    (λ e. elim c.if-top.branch [
      | then-top w ↦ w.result-is ∙ w.is_alg.ensures
      | else-top w ↦ let z = w.if-top.false in cc
    ])
    (λ e. elim c.if-top.branch [
      | then-top w ↦ let z = w.if-top.true in cc
      | else-top w ↦ w.result-is ∙ e
    ])

pub returns-else-is_some : goal.returns-else-is_some
returns-else-is_some c = (
  λ h. let z = c.if-is_some.false in cc,
  λ h. absurd (beside_missed (λ t. tree_of t.now) c.get.result c.args.members.now c.args.name.now c.args.top (c.get.ensures ∙ ap (member_named c.args.members.now) c.as_str.ensures) (sym c.is_some.ensures ∙ c.if-is_some.false) h),
)
