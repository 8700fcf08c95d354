use Rattle.std.proofs.Common.{◌∷◌, option_map, Some, decimal, reverse, sym, ◌∙◌, ap}
use Rattle.std.proofs.lemmas.Result.{IfOk-weaker}
use Rattle.claim_tree.specs.Tree.{Text}
use Rattle.marked_tree.specs.Paths.{Path, first_with, elements_spots, members_spots}
use Rattle.marked_tree.specs.View.{marked_of}
use Rattle.marked_tree.proofs.MarkedViews.{Entry}
use Rattle.marked_tree.proofs.Finds.{found_inside, not_own, stepped, step_behind, element_passed, element_found, member_passed, member_found}
use Rattle.marked_tree.proofs.places.+find.Goals as goal

pub find_at-returns : goal.find_at-returns
find_at-returns t c =
    let other = not_own c.args.own c.args.mark (sym c.eq.ensures ∙ c.if-eq.false) in
    IfOk-weaker c.find.result _ _
    (λ steps e step. stepped (λ s. reverse s.items) step steps ∙ ap (option_map (λ (p : Path). step ∷ p)) e ∙ sym (found_inside c.args.mark step c.args.own (marked_of c.args.tree.now) other)) c.find.ensures

pub find_element-returns-in-Some : goal.find_element-returns-in-Some
find_element-returns-in-Some t c =
    let l = c.loop-i in
    let here = rw c.in-Some.is at c.in_ok-steps.ensures (decimal l.i) in
    let found = element_found c.args.mark l.i c.elements-element-items.result.now c.element-item.result (decimal l.i ∷ reverse c.in-Some.steps.items) c.loop-i-test.true c.element-item.is (sym here) in
    let whole = ap (λ es. first_with c.args.mark (elements_spots 0 es)) c.elements-element-items.ensures.value in
    ap (λ steps. Some (reverse steps)) c.in_ok-push.ensures.items
    ∙ ap (λ (steps : Path). Some steps) (step_behind c.in-Some.steps.items c.in_ok-digits.field-0 ∙ ap (λ (step : Text). step ∷ reverse c.in-Some.steps.items) c.in_ok-digits.ensures)
    ∙ sym found ∙ l.invariant ∙ whole

pub find_element-loop-i-preserved : goal.find_element-loop-i-preserved
find_element-loop-i-preserved t c =
    let l = c.loop-i in
    let here = rw c.in_default.is at c.in_ok-steps.ensures (decimal l.i) in
    element_passed c.args.mark l.i c.elements-element-items.result.now c.element-item.result c.loop-i-test.true c.element-item.is (sym here) ∙ l.invariant

pub find_member-returns-in-Some : goal.find_member-returns-in-Some
find_member-returns-in-Some t c =
    let l = c.loop-name in
    let m : Entry = c.loop-name-item.result in
    let here = rw c.in-Some.is at c.in_ok-steps.ensures m.0 in
    let found = member_found c.args.mark l.name-index c.members-name-items.result.now m (m.0 ∷ reverse c.in-Some.steps.items) c.loop-name-test.true c.loop-name-item.is (sym here) in
    let whole = ap (λ ms. first_with c.args.mark (members_spots ms)) c.members-name-items.ensures.value in
    ap (λ steps. Some (reverse steps)) c.in_ok-push.ensures.items
    ∙ ap (λ (steps : Path). Some steps) (step_behind c.in-Some.steps.items c.in_ok-make.field-0 ∙ ap (λ (step : Text). step ∷ reverse c.in-Some.steps.items) (c.in_ok-make.ensures ∙ c.as_str.ensures))
    ∙ sym found ∙ l.invariant ∙ whole

pub find_member-loop-name-preserved : goal.find_member-loop-name-preserved
find_member-loop-name-preserved t c =
    let l = c.loop-name in
    let m : Entry = c.loop-name-item.result in
    let here = rw c.in_default.is at c.in_ok-steps.ensures m.0 in
    member_passed c.args.mark l.name-index c.members-name-items.result.now m c.loop-name-test.true c.loop-name-item.is (sym here) ∙ l.invariant
