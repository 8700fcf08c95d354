use Rattle.std.proofs.Common.{◌≡◌, ℕ, List, subst, sym, ◌∙◌, refl, arith}
use Rattle.sd_outside.specs.Lists.{IsLeast, AtNone}
use Rattle.marked_tree.specs.Marked.{strip}
use Rattle.marked_tree.specs.Numbers.{has}
use Rattle.marked_tree.specs.Paths.{Path, chosen}
use Rattle.marked_tree.specs.View.{marked_of}
use Rattle.marked_tree.proofs.LeastChoice.{least_choice, least_same}
use Rattle.selection_core.specs.ChoiceRefusals.{IsMissing}
use Rattle.selection_core.proofs.Wanted.{gathered_more, gathered_all, none_missing_more, none_missing_all, first_missing}
use Rattle.selection_core.proofs.choosing.choose.Goals as goal

pub loop-k-init : goal.loop-k-init
loop-k-init c = (λ i. rw c.new-marks.ensures.items refl, λ q l. absurd (omega (arith, l)))

pub returns-then-not-branch-clause-refused : goal.returns-then-not-branch-clause-refused
returns-then-not-branch-clause-refused c =
    let t = strip (marked_of c.args.tree.now) in
    let want = c.elements-path-items.result.now in
    subst (λ (ps : List Path). IsLeast (IsMissing t ps) c.loop-k.k) c.elements-path-items.ensures
    (first_missing t want c.loop-k.k c.path-item.result c.loop-k-test.true c.path-item.is (sym c.if-not-branch.true ∙ c.in_ok-add_way.ensures.there) c.loop-k.invariant.1)

pub loop-k-preserved : goal.loop-k-preserved
loop-k-preserved c =
    let m = marked_of c.args.tree.now in
    let want = c.elements-path-items.result.now in (
      gathered_more m want c.loop-k.marks.items c.add_way.new.marks.items c.loop-k.k c.path-item.result c.loop-k-test.true c.path-item.is c.loop-k.invariant.0 (c.in_ok-add_way.ensures.marks c.if-not-branch.false),
      none_missing_more (strip m) want c.loop-k.k c.path-item.result c.path-item.is (sym c.if-not-branch.false ∙ c.in_ok-add_way.ensures.there) c.loop-k.invariant.1,
    )

pub returns-clause-chosen : goal.returns-clause-chosen
returns-clause-chosen c =
    let m = marked_of c.args.tree.now in
    subst (λ (ps : List Path). (i : ℕ) → has c.in_ok-of.field-0 i ≡ chosen m ps i) c.elements-path-items.ensures
    (λ i. c.in_ok-of.ensures i ∙ gathered_all m c.elements-path-items.result.now c.loop-k.marks.items c.loop-k.k c.loop-k-test.false c.loop-k.invariant.0 i)

pub returns-clause-least : goal.returns-clause-least
returns-clause-least c once =
    let m = marked_of c.args.tree.now in
    least_same m c.args.wanted.now (has c.in_ok-of.field-0) (chosen m c.args.wanted.now)
    (subst (λ (ps : List Path). (i : ℕ) → has c.in_ok-of.field-0 i ≡ chosen m ps i) c.elements-path-items.ensures
    (λ i. c.in_ok-of.ensures i ∙ gathered_all m c.elements-path-items.result.now c.loop-k.marks.items c.loop-k.k c.loop-k-test.false c.loop-k.invariant.0 i))
    (least_choice m c.args.wanted.now once)

pub returns-clause-there : goal.returns-clause-there
returns-clause-there c =
    let t = strip (marked_of c.args.tree.now) in
    subst (λ (ps : List Path). AtNone (IsMissing t ps)) c.elements-path-items.ensures
    (none_missing_all t c.elements-path-items.result.now c.loop-k.k c.loop-k-test.false c.loop-k.invariant.1)
