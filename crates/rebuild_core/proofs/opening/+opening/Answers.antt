use Rattle.std.proofs.Common.{◌≡◌, ◌-◌, ◌<◌, ◌≤◌, [], drop, refl, sym, ap, ◌∙◌, arith}
use Rattle.std.proofs.lemmas.Result.{err_from_is_err_and}
use Rattle.std.proofs.lemmas.List.{nil_from_length}
use Rattle.std.proofs.Math.ListN.{drop_of_length-le}
use Rattle.std.specs.Vec.Iter.{into_iter_items}
use Rattle.claim_tree.specs.ListViews.{elements_of, members_of}
use Rattle.digest_sites.specs.Reserved.{sd_texts}
use Rattle.marked_tree.specs.Marked.{marked_object}
use Rattle.marked_tree.specs.MarkedCalls.{put_all}
use Rattle.marked_tree.specs.View.{marked_members_of}
use Rattle.rebuild_core.specs.Opening.{open_members}
use Rattle.rebuild_core.specs.Whole.{settled, topped, shown_depth}
use Rattle.rebuild_core.proofs.Taking.{taking_end}
use Rattle.rebuild_core.proofs.ListOpening.{has_digest, has_none, still_deep, list_here, list_ends, plain_after, plain_deep, hidden_after, hidden_deep, plain_opens, plain_taken, hidden_opens, hidden_taken}
use Rattle.rebuild_core.proofs.NextOpening.{none_shown, none_taken, few_here, end_here, shown_here, opens_here, taken_here}
use Rattle.rebuild_core.proofs.ShownDepths.{map_depth}
use Rattle.rebuild_core.proofs.MapOpening.{own_here, own_after, own_deep, own_ends, own_opens, own_taken, map_here, map_ends, kept_after, kept_deep, dropped_after, kept_opens, kept_taken, dropped_taken, object_own, object_plain, object_taken, object_moved, object_is, object_low, object_deep_own, object_deep_plain}
use Rattle.rebuild_core.proofs.opening.+opening.Goals as goal

-- ---- the elements

pub open_list-open_next-requires : goal.open_list-open_next-requires
open_list-open_next-requires t c =
    let g = c.requires.ready.0 in
    let o = c.requires.ready.1 in
    let s = list_here _ _ _ _ _ _ _ _ _ _ _ _ _ c.in-Some.ensures.steps.0 (c.loop-tree.invariant g o) in
    let d = has_digest (λ x. x.now) c.element_digest.result _ c.element_digest.ensures (sym c.is_some.ensures ∙ c.if-is_some.true) in
    (omega (arith, c.decreases), (g, d.0, hidden_opens _ _ _ _ _ _ _ _ _ _ _ _ _ o.ready s.0 s.1 d.0 d.1))

pub open_list-returns-in_err-shown-clause-opened : goal.open_list-returns-in_err-shown-clause-opened
open_list-returns-in_err-shown-clause-opened t c = λ g o.
    let s = list_here _ _ _ _ _ _ _ _ _ _ _ _ _ c.in-Some.ensures.steps.0 (c.loop-tree.invariant g o) in
    let d = has_digest (λ x. x.now) c.element_digest.result _ c.element_digest.ensures (sym c.is_some.ensures ∙ c.if-is_some.true) in
    let p = err_from_is_err_and c.from_residual-in_err-shown.result c.from_residual-in_err-shown.ensures.1 in
    rw (p.1, p.2) (still_deep c.in_err-shown.field-0.0 (λ h. hidden_deep _ _ _ _ _ _ _ _ _ s.0 d.0 d.1 h)
    (c.in_err-shown.ensures.opened g d.0 (hidden_opens _ _ _ _ _ _ _ _ _ _ _ _ _ o.ready s.0 s.1 d.0 d.1)))

pub open_list-loop-tree-preserved-in-Continue-branch-3 : goal.open_list-loop-tree-preserved-in-Continue-branch-3
open_list-loop-tree-preserved-in-Continue-branch-3 t c = λ g o.
    let s = list_here _ _ _ _ _ _ _ _ _ _ _ _ _ c.in-Some.ensures.steps.0 (c.loop-tree.invariant g o) in
    let d = has_digest (λ x. x.now) c.element_digest.result _ c.element_digest.ensures (sym c.is_some.ensures ∙ c.if-is_some.true) in
    let w = c.in_ok-shown.ensures.opened g d.0 (hidden_opens _ _ _ _ _ _ _ _ _ _ _ _ _ o.ready s.0 s.1 d.0 d.1) in (
      hidden_after _ _ _ _ _ _ _ _ _ s.0 d.0 d.1 c.open_next.new.at _ c.push_element.new.out c.in_ok-shown.ensures.moved w.0 w.1 c.in_ok-push_element.ensures,
      hidden_taken _ _ _ _ _ _ _ _ _ _ _ _ _ o.ready s.0 s.1 d.0 d.1 _ w.2,
    )

pub open_list-open-requires : goal.open_list-open-requires
open_list-open-requires t c =
    let g = c.requires.ready.0 in
    let o = c.requires.ready.1 in
    let s = list_here _ _ _ _ _ _ _ _ _ _ _ _ _ c.in-Some.ensures.steps.0 (c.loop-tree.invariant g o) in
    (omega (arith, c.decreases), (g, plain_opens _ _ _ _ _ _ _ _ _ _ _ _ _ o.ready s.0 s.1 (has_none (λ x. x.now) c.element_digest.result _ c.element_digest.ensures (sym c.is_some.ensures ∙ c.if-is_some.false))))

pub open_list-returns-in_err-plain-clause-opened : goal.open_list-returns-in_err-plain-clause-opened
open_list-returns-in_err-plain-clause-opened t c = λ g o.
    let s = list_here _ _ _ _ _ _ _ _ _ _ _ _ _ c.in-Some.ensures.steps.0 (c.loop-tree.invariant g o) in
    let none = has_none (λ x. x.now) c.element_digest.result _ c.element_digest.ensures (sym c.is_some.ensures ∙ c.if-is_some.false) in
    let p = err_from_is_err_and c.from_residual-in_err-plain.result c.from_residual-in_err-plain.ensures.1 in
    rw (p.1, p.2) (still_deep c.in_err-plain.field-0.0 (λ h. plain_deep _ _ _ _ _ _ _ _ _ s.0 none h) (c.in_err-plain.ensures.opened g (plain_opens _ _ _ _ _ _ _ _ _ _ _ _ _ o.ready s.0 s.1 none)))

pub open_list-loop-tree-preserved : goal.open_list-loop-tree-preserved
open_list-loop-tree-preserved t c = λ g o.
    let s = list_here _ _ _ _ _ _ _ _ _ _ _ _ _ c.in-Some.ensures.steps.0 (c.loop-tree.invariant g o) in
    let none = has_none (λ x. x.now) c.element_digest.result _ c.element_digest.ensures (sym c.is_some.ensures ∙ c.if-is_some.false) in
    let w = c.in_ok-plain.ensures.opened g (plain_opens _ _ _ _ _ _ _ _ _ _ _ _ _ o.ready s.0 s.1 none) in (
      plain_after _ _ _ _ _ _ _ _ _ s.0 none c.open.new.at _ c.push.new.self c.in_ok-plain.ensures.moved w.0 w.1 c.in_ok-push.ensures.ok,
      plain_taken _ _ _ _ _ _ _ _ _ _ _ _ _ o.ready s.0 s.1 none _ w.2,
    )

pub open_list-returns-clause-opened : goal.open_list-returns-clause-opened
open_list-returns-clause-opened t c = λ g o.
    let s = c.loop-tree.invariant g o in
    let left = into_iter_items c.loop-tree.tree-iterator in
    let none : left ≡ [] = nil_from_length left (sym c.loop-tree.tree-iterator.rest.ok.0 ∙ c.in-None.ensures.steps.0) in
    let w = list_ends _ _ _ _ _ _ _ _ s.0 (ap elements_of none) in
    (w.1, w.2, taking_end _ _ _ _ _ s.1)

-- ---- a digest

pub open_next-returns-in_default-clause-opened : goal.open_next-returns-in_default-clause-opened
open_next-returns-in_default-clause-opened t c = λ g d o. (
  none_shown g _ _ _ _ d o c.index-number.result.now c.index-number.ensures c.in_default.ensures.taken,
  omega arith,
  none_taken g _ _ _ _ d o c.index-number.result.now c.index-number.ensures c.in_default.ensures.taken _ c.in_default.ensures.left,
)

pub open_next-index-requires : goal.open_next-index-requires
open_next-index-requires t c =
    let o = c.requires.ready.2 in
    omega (arith, end_here _ _ _ _ _ _ o c.index-number.result.now c.index-number.ensures _ _ c.in-Some.ensures.taken)

pub open_next-open-requires : goal.open_next-open-requires
open_next-open-requires t c =
    let o = c.requires.ready.2 in
    (omega (arith, c.decreases), (c.requires.ready.0, opens_here _ _ _ _ _ _ o c.index-number.result.now c.index-number.ensures _ _ c.in-Some.ensures.taken _ c.index.ensures _ c.in-Some.ensures.left))

pub open_next-returns-in_err-tree-clause-opened : goal.open_next-returns-in_err-tree-clause-opened
open_next-returns-in_err-tree-clause-opened t c = λ g d o.
    let v = opens_here _ _ _ _ _ _ o c.index-number.result.now c.index-number.ensures _ _ c.in-Some.ensures.taken _ c.index.ensures _ c.in-Some.ensures.left in
    let e = shown_here _ _ _ _ _ _ o c.index-number.result.now c.index-number.ensures _ _ c.in-Some.ensures.taken in
    let p = err_from_is_err_and c.from_residual.result c.from_residual.ensures.1 in
    rw (p.1, p.2) (still_deep c.in_err-tree.field-0.0 (λ h. omega (arith, h, ap shown_depth e)) (c.in_err-tree.ensures.opened g v))

pub open_next-overflow_cast-result : goal.open_next-overflow_cast-result
open_next-overflow_cast-result t c =
    let o = c.requires.ready.2 in
    omega (arith, few_here _ _ _ _ _ _ o c.index-number.result.now c.index-number.ensures _ _ c.in-Some.ensures.taken)

pub open_next-returns-clause-opened : goal.open_next-returns-clause-opened
open_next-returns-clause-opened t c = λ g d o.
    let v = opens_here _ _ _ _ _ _ o c.index-number.result.now c.index-number.ensures _ _ c.in-Some.ensures.taken _ c.index.ensures _ c.in-Some.ensures.left in
    let e = shown_here _ _ _ _ _ _ o c.index-number.result.now c.index-number.ensures _ _ c.in-Some.ensures.taken in
    let w = c.in_ok-tree.ensures.opened g v in
    (rw w.0 (sym e), w.1, taken_here _ _ _ _ _ _ o c.index-number.result.now c.index-number.ensures _ _ c.in-Some.ensures.taken _ _ c.in-Some.ensures.left w.2)

-- ---- the members of an object

pub open_parts-open_own-requires : goal.open_parts-open_own-requires
open_parts-open_own-requires t c = (omega (arith, c.decreases, c.if-limit-eq0.false), (c.requires.ready.0, object_own _ _ _ _ c.args.top c.args.map _ c.requires.ready.1))

pub open_parts-returns-in_err-hidden-clause-opened : goal.open_parts-returns-in_err-hidden-clause-opened
open_parts-returns-in_err-hidden-clause-opened t c = λ g o.
    let some : 0 < c.args.limit = omega (arith, c.if-limit-eq0.false) in
    let p = err_from_is_err_and c.from_residual.result c.from_residual.ensures.1 in
    rw (p.1, p.2) (still_deep c.in_err-hidden.field-0.0 (λ h. object_deep_own g c.args.limit c.args.top c.args.map some o.whole.0 h) (c.in_err-hidden.ensures.opened g (object_own _ _ _ _ c.args.top c.args.map _ o)))

pub open_parts-open_plain-requires : goal.open_parts-open_plain-requires
open_parts-open_plain-requires t c =
    let o = c.requires.ready.1 in
    let own = c.in_ok-hidden.ensures.opened _ (object_own _ _ _ _ c.args.top c.args.map _ o) in
    (omega (arith, c.decreases, c.if-limit-eq0.false), (c.requires.ready.0, object_plain _ _ _ _ c.args.top c.args.map _ o _ own.2 _ c.in_ok-hidden.ensures.moved))

pub open_parts-returns-in_err-plain-clause-opened : goal.open_parts-returns-in_err-plain-clause-opened
open_parts-returns-in_err-plain-clause-opened t c = λ g o.
    let some : 0 < c.args.limit = omega (arith, c.if-limit-eq0.false) in
    let own = c.in_ok-hidden.ensures.opened _ (object_own _ _ _ _ c.args.top c.args.map _ o) in
    let p = err_from_is_err_and c.from_residual-in_err-plain.result c.from_residual-in_err-plain.ensures.1 in
    rw (p.1, p.2) (still_deep c.in_err-plain.field-0.0 (λ h. object_deep_plain g c.args.limit c.args.top c.args.map some h)
    (c.in_err-plain.ensures.opened g (object_plain _ _ _ _ c.args.top c.args.map _ o _ own.2 _ c.in_ok-hidden.ensures.moved)))

pub open_parts-returns-clause-moved : goal.open_parts-returns-clause-moved
open_parts-returns-clause-moved t c = object_moved c.args.top c.args.map c.args.at.now c.open_own.new.at c.open_plain.new.at c.in_ok-hidden.ensures.moved c.in_ok-plain.ensures.moved

pub open_parts-returns-clause-opened : goal.open_parts-returns-clause-opened
open_parts-returns-clause-opened t c = λ g o.
    let some : 0 < c.args.limit = omega (arith, c.if-limit-eq0.false) in
    let own = c.in_ok-hidden.ensures.opened g (object_own _ _ _ _ c.args.top c.args.map _ o) in
    let plain = c.in_ok-plain.ensures.opened g (object_plain _ _ _ _ c.args.top c.args.map _ o _ own.2 _ c.in_ok-hidden.ensures.moved) in
    let all = put_all (marked_members_of c.in_ok-hidden.hidden.items) c.in_ok-plain.plain in
    let is = object_is g c.args.limit c.args.top c.args.map some _ _ all own.0 plain.0 refl in
    let low : map_depth (open_members (settled g) (topped c.args.top c.args.map)) ≤ c.args.limit - 1 = omega (arith, plain.1, ap map_depth plain.0) in
    (ap marked_object is, object_low g c.args.limit c.args.top c.args.map some all is own.1 low, object_taken _ _ _ _ c.args.top c.args.map _ o _ own.2 _ plain.2)

-- ---- the hidden members

pub open_own-open_next-requires : goal.open_own-open_next-requires
open_own-open_next-requires t c =
    let g = c.requires.ready.0 in
    let o = c.requires.ready.1 in
    let s = own_here _ _ _ _ _ _ _ c.loop.counter _ _ (omega (arith, c.loop-test.true, c.loop.invariant.0)) (c.loop.invariant.2 g o) in
    (omega (arith, c.decreases), (g, _, own_opens _ _ _ _ _ _ _ _ _ _ _ _ o.ready s.0 s.1))

pub open_own-returns-in_err-shown-clause-opened : goal.open_own-returns-in_err-shown-clause-opened
open_own-returns-in_err-shown-clause-opened t c = λ g o.
    let s = own_here _ _ _ _ _ _ _ c.loop.counter _ _ (omega (arith, c.loop-test.true, c.loop.invariant.0)) (c.loop.invariant.2 g o) in
    let p = err_from_is_err_and c.from_residual-in_err-shown.result c.from_residual-in_err-shown.ensures.1 in
    rw (p.1, p.2) (still_deep c.in_err-shown.field-0.0 (λ h. own_deep _ _ _ _ _ _ _ _ _ s.0 h) (c.in_err-shown.ensures.opened g _ (own_opens _ _ _ _ _ _ _ _ _ _ _ _ o.ready s.0 s.1)))

pub open_own-loop-preserved : goal.open_own-loop-preserved
open_own-loop-preserved t c = (
  c.loop.invariant.0,
  omega (arith, c.loop-test.true),
  λ g o.
      let s = own_here _ _ _ _ _ _ _ c.loop.counter _ _ (omega (arith, c.loop-test.true, c.loop.invariant.0)) (c.loop.invariant.2 g o) in
      let w = c.in_ok-shown.ensures.opened g _ (own_opens _ _ _ _ _ _ _ _ _ _ _ _ o.ready s.0 s.1) in (
        own_after _ _ _ _ _ _ _ _ _ s.0 c.open_next.new.at _ (marked_members_of c.push_member.new.out.items) c.in_ok-shown.ensures.moved w.0 w.1 c.in_ok-push_member.ensures,
        own_taken _ _ _ _ _ _ _ _ _ _ _ _ o.ready s.0 s.1 _ w.2,
      ),
)

pub open_own-returns-clause-opened : goal.open_own-returns-clause-opened
open_own-returns-clause-opened t c = λ g o.
    let s = c.loop.invariant.2 g o in
    let end : drop c.loop.counter (sd_texts c.args.map.now) ≡ [] = drop_of_length-le (sd_texts c.args.map.now) (omega (arith, c.loop.invariant.0)) in
    let w = own_ends _ _ _ _ _ _ _ _ s.0 end in
    (w.1, w.2, taking_end _ _ _ _ _ s.1)

-- ---- the other members

pub open_plain-open-requires : goal.open_plain-open-requires
open_plain-open-requires t c =
    let g = c.requires.ready.0 in
    let o = c.requires.ready.1 in
    let s = map_here _ _ _ _ _ _ _ _ _ (c.in-Some.name, c.in-Some.tree) _ _ _ _ c.in-Some.ensures.steps.0 (c.loop-name.invariant g o) in
    (omega (arith, c.decreases), (g, kept_opens _ _ _ _ _ _ _ _ _ _ _ _ _ _ _ o.ready s.0 s.1 (sym c.stays.ensures ∙ c.if-stays.true)))

pub open_plain-returns-in_err-plain-clause-opened : goal.open_plain-returns-in_err-plain-clause-opened
open_plain-returns-in_err-plain-clause-opened t c = λ g o.
    let s = map_here _ _ _ _ _ _ _ _ _ (c.in-Some.name, c.in-Some.tree) _ _ _ _ c.in-Some.ensures.steps.0 (c.loop-name.invariant g o) in
    let p = err_from_is_err_and c.from_residual-in_err-plain.result c.from_residual-in_err-plain.ensures.1 in
    rw (p.1, p.2) (still_deep c.in_err-plain.field-0.0 (λ h. kept_deep _ _ _ _ _ _ _ _ _ _ _ s.0 (sym c.stays.ensures ∙ c.if-stays.true) h)
    (c.in_err-plain.ensures.opened g (kept_opens _ _ _ _ _ _ _ _ _ _ _ _ _ _ _ o.ready s.0 s.1 (sym c.stays.ensures ∙ c.if-stays.true))))

pub open_plain-loop-name-preserved-in-Continue-branch-3 : goal.open_plain-loop-name-preserved-in-Continue-branch-3
open_plain-loop-name-preserved-in-Continue-branch-3 t c = λ g o.
    let s = map_here _ _ _ _ _ _ _ _ _ (c.in-Some.name, c.in-Some.tree) _ _ _ _ c.in-Some.ensures.steps.0 (c.loop-name.invariant g o) in
    let w = c.in_ok-plain.ensures.opened g (kept_opens _ _ _ _ _ _ _ _ _ _ _ _ _ _ _ o.ready s.0 s.1 (sym c.stays.ensures ∙ c.if-stays.true)) in (
      kept_after _ _ _ _ _ _ _ _ _ _ _ s.0 (sym c.stays.ensures ∙ c.if-stays.true) c.open.new.at _ c.put.new.self c.in_ok-plain.ensures.moved w.0 w.1 c.in_ok-put.ensures.ok,
      kept_taken _ _ _ _ _ _ _ _ _ _ _ _ _ _ _ o.ready s.0 s.1 (sym c.stays.ensures ∙ c.if-stays.true) _ w.2,
    )

pub open_plain-loop-name-preserved : goal.open_plain-loop-name-preserved
open_plain-loop-name-preserved t c = λ g o.
    let s = map_here _ _ _ _ _ _ _ _ _ (c.in-Some.name, c.in-Some.tree) _ _ _ _ c.in-Some.ensures.steps.0 (c.loop-name.invariant g o) in
    let drops = sym c.stays.ensures ∙ c.if-stays.false in
    (dropped_after _ _ _ _ _ _ _ _ _ _ _ s.0 drops, dropped_taken _ _ _ _ _ _ _ _ _ _ _ _ _ _ _ o.ready s.0 s.1 drops)

pub open_plain-returns-clause-opened : goal.open_plain-returns-clause-opened
open_plain-returns-clause-opened t c = λ g o.
    let s = c.loop-name.invariant g o in
    let left = into_iter_items c.loop-name.name-iterator in
    let none : left ≡ [] = nil_from_length left (sym c.loop-name.name-iterator.rest.ok.0 ∙ c.in-None.ensures.steps.0) in
    let w = map_ends _ _ _ _ _ _ _ _ _ s.0 (ap members_of none) in
    (w.1, w.2, taking_end _ _ _ _ _ s.1)
