use Rattle.std.proofs.Common.{List, sym, subst, ◌∙◌}
use Rattle.sd_outside.specs.Lists.{In}
use Rattle.marked_tree.specs.Marked.{strip}
use Rattle.marked_tree.specs.View.{marked_of}
use Rattle.wallet_core.specs.declared.query.Equal.{Equal}
use Rattle.wallet_core.proofs.Sames.{is_not, values_more, value_in}
use Rattle.wallet_core.proofs.values.has_values.Goals as goal

pub returns-then-not-has_value : goal.returns-then-not-has_value
returns-then-not-has_value c =
    let es : List Equal = c.elements-one-items.result.now in
    is_not _ (λ all.
    let one : In c.one-item.result c.args.equal.now = subst (λ (xs : List Equal). In c.one-item.result xs) c.elements-one-items.ensures (value_in es c.loop-one.one-index c.one-item.result c.loop-one-test.true c.one-item.is) in
    let no = sym c.if-not-has_value.true ∙ c.has_value.ensures.1 (all c.one-item.result one) in cc no)

pub loop-one-preserved : goal.loop-one-preserved
loop-one-preserved c =
    values_more (strip (marked_of c.args.tree.now)) c.elements-one-items.result.now c.loop-one.one-index c.one-item.result c.loop-one-test.true c.one-item.is c.loop-one.invariant (c.has_value.ensures.0 c.if-not-has_value.false)
