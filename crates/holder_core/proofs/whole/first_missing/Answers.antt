use Rattle.std.proofs.Common.{List, subst, arith}
use Rattle.sd_outside.specs.Lists.{IsLeast, AtNone}
use Rattle.claim_tree.specs.View.{tree_of}
use Rattle.marked_tree.specs.Paths.{Path}
use Rattle.selection_core.specs.ChoiceRefusals.{IsMissing}
use Rattle.selection_core.proofs.Wanted.{none_missing_more, none_missing_all, first_missing}
use Rattle.holder_core.proofs.WholeToken.{nothing_found, something_found}
use Rattle.holder_core.proofs.whole.first_missing.Goals as goal

pub loop-k-init : goal.loop-k-init
loop-k-init c = λ q l. absurd (omega (arith, l))

pub returns-then-is_none-clause-least : goal.returns-then-is_none-clause-least
returns-then-is_none-clause-least c =
    let t = tree_of c.args.payload.now in
    let want = c.elements-path-items.result.now in
    subst (λ (ps : List Path). IsLeast (IsMissing t ps) c.loop-k.k) c.elements-path-items.ensures
    (first_missing t want c.loop-k.k c.path-item.result c.loop-k-test.true c.path-item.is (nothing_found _ c.find.result _ c.find.ensures.value c.if-is_none.ensures) c.loop-k.invariant)

pub loop-k-preserved : goal.loop-k-preserved
loop-k-preserved c =
    let t = tree_of c.args.payload.now in
    let want = c.elements-path-items.result.now in
    none_missing_more t want c.loop-k.k c.path-item.result c.path-item.is (something_found _ c.find.result _ c.find.ensures.value c.if-is_none.ensures) c.loop-k.invariant

pub returns-clause-there : goal.returns-clause-there
returns-clause-there c none =
    let t = tree_of c.args.payload.now in
    subst (λ (ps : List Path). AtNone (IsMissing t ps)) c.elements-path-items.ensures
    (none_missing_all t c.elements-path-items.result.now c.loop-k.k c.loop-k-test.false c.loop-k.invariant)
