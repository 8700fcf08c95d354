use Rattle.std.proofs.Common.{◌∷◌, reverse, Some, sym, ap, subst, ◌∙◌, arith}
use Rattle.std.specs.Prelude.{slice_get}
use Rattle.std.proofs.Math.ListN.{drop_of_length-le}
use Rattle.claim_tree.specs.Tree.{Text, elements_len}
use Rattle.claim_tree.proofs.Views.{elements_len-of}
use Rattle.issuer_core.proofs.ReservedPlaces.{ElementsFit, every, element_found, element_passed, member_found, member_passed, without_sd, object_with, object_without, held_element, held_member}
use Rattle.claim_tree.specs.ListViews.{elements_of, members_of}
use Rattle.claim_tree.proofs.Walks.{Named}
use Rattle.marked_tree.specs.Paths.{Path}
use Rattle.issuer_core.specs.ReservedPaths.{reserved_elements, reserved_members}
use Rattle.issuer_core.proofs.reserved.+reserved.Goals as goal
use Rattle.marked_tree.proofs.Finds.{step_behind}

pub find_in_list-returns-in-Some-clause-first : goal.find_in_list-returns-in-Some-clause-first
find_in_list-returns-in-Some-clause-first t c =
    let l = c.loop-i in
    let steps = c.in-Some.steps.items in
    let here = rw c.in-Some.is at c.in_ok-steps.ensures.first in
    let found = element_found l.i c.trees-tree-items.result.now c.tree-item.result (reverse steps) c.loop-i-test.true c.tree-item.is (sym here) in
    let whole = ap (λ es. slice_get (reserved_elements 0 es) 0) c.trees-tree-items.ensures.value in
    ap (λ (path : Path). Some (reverse path)) c.in_ok-push.ensures.items
    ∙ ap (λ (path : Path). Some path) (step_behind steps c.in_ok-digits.field-0 ∙ ap (λ (step : Text). step ∷ reverse steps) c.in_ok-digits.ensures)
    ∙ sym found ∙ l.invariant.0 ∙ whole

pub find_in_list-loop-i-preserved : goal.find_in_list-loop-i-preserved
find_in_list-loop-i-preserved t c =
    let l = c.loop-i in
    let here = rw c.in_default.is at c.in_ok-steps.ensures.first in
    let held = rw c.in_default.is at c.in_ok-steps.ensures.held in (
      element_passed l.i c.trees-tree-items.result.now c.tree-item.result c.loop-i-test.true c.tree-item.is (sym here) ∙ l.invariant.0,
      λ rest. l.invariant.1 (held_element l.i c.trees-tree-items.result.now c.tree-item.result c.loop-i-test.true c.tree-item.is held rest),
    )

pub find_in_members-returns-in-Some-clause-first : goal.find_in_members-returns-in-Some-clause-first
find_in_members-returns-in-Some-clause-first t c =
    let l = c.loop-name in
    let m : Named = c.loop-name-item.result in
    let steps = c.in-Some.steps.items in
    let here = rw c.in-Some.is at c.in_ok-steps.ensures.first in
    let found = member_found l.name-index c.members-name-items.result.now m (m.0 ∷ reverse steps) c.loop-name-test.true c.loop-name-item.is (sym here) in
    let whole = ap (λ ms. slice_get (reserved_members every ms) 0) c.members-name-items.ensures.value in
    let object = ap (λ ps. slice_get ps 0) (without_sd c.args.trees.now c.requires.no_sd) in
    ap (λ (path : Path). Some (reverse path)) c.in_ok-push.ensures.items
    ∙ ap (λ (path : Path). Some path) (step_behind steps c.in_ok-make.field-0 ∙ ap (λ (step : Text). step ∷ reverse steps) (c.in_ok-make.ensures ∙ c.as_str.ensures))
    ∙ sym found ∙ l.invariant.0 ∙ whole ∙ sym object

pub find_in_members-loop-name-preserved : goal.find_in_members-loop-name-preserved
find_in_members-loop-name-preserved t c =
    let l = c.loop-name in
    let m : Named = c.loop-name-item.result in
    let here = rw c.in_default.is at c.in_ok-steps.ensures.first in
    let name = rw c.in_default.is at c.in_ok-steps.ensures.name in
    let held = rw c.in_default.is at c.in_ok-steps.ensures.held in (
      member_passed l.name-index c.members-name-items.result.now m c.loop-name-test.true c.loop-name-item.is (sym here) ∙ l.invariant.0,
      λ rest. l.invariant.1 (held_member l.name-index c.members-name-items.result.now m c.loop-name-test.true c.loop-name-item.is name held rest),
    )

pub find_in_members-returns-clause-first : goal.find_in_members-returns-clause-first
find_in_members-returns-clause-first t c =
    let l = c.loop-name in
    let items = c.members-name-items.result.now in
    let none = ap (λ ms. slice_get (reserved_members every (members_of ms)) 0) (drop_of_length-le items (omega (arith, c.loop-name-test.false))) in
    let whole = ap (λ ms. slice_get (reserved_members every ms) 0) c.members-name-items.ensures.value in
    let object = ap (λ ps. slice_get ps 0) (without_sd c.args.trees.now c.requires.no_sd) in
    sym none ∙ l.invariant.0 ∙ whole ∙ sym object

pub find_in_object-returns-then-is_some-clause-first : goal.find_in_object-returns-then-is_some-clause-first
find_in_object-returns-then-is_some-clause-first t c = object_with c.args.trees.now c.get.result c.get.ensures (sym c.is_some.ensures ∙ c.if-is_some.true) c.in_ok-one_step.field-0.items c.in_ok-one_step.ensures

pub find_in_object-find_in_members-requires : goal.find_in_object-find_in_members-requires
find_in_object-find_in_members-requires t c = (omega arith, (c.requires, object_without c.args.trees.now c.get.result c.get.ensures (sym c.is_some.ensures ∙ c.if-is_some.false)))

pub find_in_list-returns-clause-held : goal.find_in_list-returns-clause-held
find_in_list-returns-clause-held t c =
    let l = c.loop-i in
    let items = c.trees-tree-items.result.now in
    let none = subst (λ us. ElementsFit (elements_of us)) (sym (drop_of_length-le items (omega (arith, c.loop-i-test.false)))) tt in
    let count = elements_len-of items in
    let whole = ap elements_len c.trees-tree-items.ensures.value in
    (omega (arith, count, whole, c.loop-i.auto.i-end), subst ElementsFit c.trees-tree-items.ensures.value (l.invariant.1 none))
