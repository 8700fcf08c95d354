use Rattle.std.proofs.Common.{◌≡◌, ℕ, ◌+◌, ◌<◌, ◌≤◌, [], drop, ap, sym, subst, ◌∙◌, arith, rules, suc, decimal}
use Rattle.std.specs.Vec.Iter.{into_iter_items}
use Rattle.std.proofs.lemmas.List.{length-map, nil_from_length}
use Rattle.claim_tree.specs.Tree.{depth, element, no_elements, member, no_members, names}
use Rattle.claim_tree.specs.Falls.{deep-le}
use Rattle.claim_tree.specs.View.{tree_of}
use Rattle.claim_tree.specs.ListViews.{elements_of, members_of}
use Rattle.marked_tree.specs.MarkedCalls.{marked_elements_len}
use Rattle.marked_tree.specs.Paths.{is_among}
use Rattle.marked_tree.specs.PathsBelow.{rests_of}
use Rattle.marked_tree.specs.Rests.{headed}
use Rattle.marked_tree.specs.View.{marked_of}
use Rattle.marked_tree.proofs.MarkSame.{IsMarkedAt, MarksElements, elements_begin, elements_more, MarksMembers, members_begin, members_more, joined-none, members_joined-none}
use Rattle.marked_tree.proofs.HeadCounts.{decimals_more, decimals_le, taken_more, names_le, inner_le, ends_le}
use Rattle.marked_tree.proofs.marking.+mark.Goals as goal

pub mark_at-mark_tree-requires : goal.mark_at-mark_tree-requires
mark_at-mark_tree-requires t c =
    let ps = rests_of c.below-below.result in
    let count = c.below-below.ensures.count in
    let deeper = c.below-below.ensures.depth in
    let low : c.args.paths.now.depth + depth (tree_of c.args.tree) ≤ 126 = search rules in
    let few : c.args.next.now + headed c.args.step.now (rests_of c.args.paths.now) < 4294967296 = search rules in
    (omega arith, (omega (arith, low, deeper), (c.below-below.ensures.sorted, omega (arith, inner_le ps, length-map c.below-below.result.sorted.now (drop c.below-below.result.depth), count, few))))

pub mark_at-own_mark-mark-requires-clause-few : goal.mark_at-own_mark-mark-requires-clause-few
mark_at-own_mark-mark-requires-clause-few t c =
    let ps = rests_of c.below-below.result in
    let count = c.below-below.ensures.count in
    let few : c.args.next.now + headed c.args.step.now (rests_of c.args.paths.now) < 4294967296 = search rules in
    let so_far = c.in_ok-inside.ensures.few in
    omega (arith, ends_le ps, length-map c.below-below.result.sorted.now (drop c.below-below.result.depth), count, few, so_far)

pub mark_at-returns-clause-few : goal.mark_at-returns-clause-few
mark_at-returns-clause-few t c =
    let ps = rests_of c.below-below.result in
    let count = c.below-below.ensures.count in
    let so_far = c.in_ok-inside.ensures.few in
    let next = c.own_mark-mark.ensures.next in
    omega (arith, ends_le ps, length-map c.below-below.result.sorted.now (drop c.below-below.result.depth), count, so_far, next)

-- ---- lists

pub mark_list-loop-tree-init : goal.mark_list-loop-tree-init
mark_list-loop-tree-init t c =
    let a = c.args in
    let ps = rests_of a.paths.now in
    let all = ap elements_of c.into_iter-tree-iterator.ensures.into_iter_gives.0 ∙ c.into_trees-tree-items.ensures in
    subst (λ done. MarksElements ps a.next.now a.trees done a.next.now (elements_of (into_iter_items c.into_iter-tree-iterator.result))) (sym c.in_ok-marked.ensures)
    (subst (λ left. MarksElements ps a.next.now a.trees _ a.next.now left) (sym all) (elements_begin ps a.next.now a.trees))

pub mark_list-mark_at-requires : goal.mark_list-mark_at-requires
mark_list-mark_at-requires t c =
    let l = c.loop-tree in
    let ps = rests_of c.args.paths.now in
    let so : MarksElements ps c.args.next.now c.args.trees l.marked l.next (element (tree_of c.in-Some.tree) (elements_of (into_iter_items c.next.new.self))) =
    subst (λ es. MarksElements ps c.args.next.now c.args.trees l.marked l.next (elements_of es)) c.in-Some.ensures.steps.0 l.invariant in
    let n = marked_elements_len l.marked in
    let count : c.len.result ≡ n = c.len.ensures in
    let fits : c.len.result < 18446744073709551616 = search rules in
    let step = ap (λ s. headed s ps) (c.format-step.ensures.text ∙ ap decimal count) in
    let few = c.requires.few in
    let so_far = so.few in
    let low = so.low in
    let small = so.small in
    (omega (arith, small, deep-le c.in-Some.tree), (omega (arith, low, c.requires.depth), (c.requires.sorted, omega (arith, step, few, so_far, decimals_more n ps, decimals_le (suc n) ps (omega (arith, fits, count))))))

pub mark_list-loop-tree-preserved : goal.mark_list-loop-tree-preserved
mark_list-loop-tree-preserved t c =
    let l = c.loop-tree in
    let a = c.args in
    let u = tree_of c.in-Some.tree in
    let left = elements_of (into_iter_items c.next.new.self) in
    let ps = rests_of a.paths.now in
    let so : MarksElements ps a.next.now a.trees l.marked l.next (element u left) = subst (λ es. MarksElements ps a.next.now a.trees l.marked l.next (elements_of es)) c.in-Some.ensures.steps.0 l.invariant in
    let count : c.len.result ≡ marked_elements_len l.marked = c.len.ensures in
    let fits : c.len.result < 18446744073709551616 = search rules in
    let text = c.format-step.ensures.text ∙ ap decimal count in
    let step = ap (λ s. headed s ps) text in
    let told = c.in_ok-mark.ensures in
    let few = told.few in
    let at : IsMarkedAt (is_among ps) l.next c.format-step.result.now u c.in_ok-mark.mark (marked_of c.in_ok-mark.inside) c.mark_at.new.next = record { own_is = told.own; inside_is = told.inside; next_is = told.next } in
    let here = subst (λ s. IsMarkedAt (is_among ps) l.next s u c.in_ok-mark.mark (marked_of c.in_ok-mark.inside) c.mark_at.new.next) text at in
    let next = elements_more ps a.next.now a.trees l.marked l.next u left so (omega (arith, fits, count)) c.in_ok-mark.mark (marked_of c.in_ok-mark.inside) c.mark_at.new.next here (omega (arith, step, few)) in
    subst (λ done. MarksElements ps a.next.now a.trees done c.mark_at.new.next left) (sym c.in_ok-push.ensures.ok) next

list_done : (t : ℕ) (c : goal.mark_list-After-drop-tree-iterator-2 t) → MarksElements (rests_of c.args.paths.now) c.args.next.now c.args.trees c.loop-tree.marked c.loop-tree.next no_elements
list_done t c =
    let l = c.loop-tree in
    let left = into_iter_items l.tree-iterator in
    let none : left ≡ [] = nil_from_length left (sym l.tree-iterator.rest.ok.0 ∙ c.in-None.ensures.steps.0) in
    subst (λ es. MarksElements (rests_of c.args.paths.now) c.args.next.now c.args.trees l.marked l.next (elements_of es)) none l.invariant

pub mark_list-returns-clause-marked : goal.mark_list-returns-clause-marked
mark_list-returns-clause-marked t c = sym (joined-none c.loop-tree.marked) ∙ (list_done t c).marked

pub mark_list-returns-clause-next : goal.mark_list-returns-clause-next
mark_list-returns-clause-next t c = let counted = (list_done t c).counted in omega (arith, counted)

pub mark_list-returns-clause-few : goal.mark_list-returns-clause-few
mark_list-returns-clause-few t c =
    let so = list_done t c in
    let so_far = so.few in
    let fits = so.fits in
    omega (arith, so_far, decimals_le (marked_elements_len c.loop-tree.marked) (rests_of c.args.paths.now) fits)

-- ---- objects

pub mark_map-loop-name-init : goal.mark_map-loop-name-init
mark_map-loop-name-init t c =
    let a = c.args in
    let ps = rests_of a.paths.now in
    let all = ap members_of c.into_iter-name-iterator.ensures.into_iter_gives.0 ∙ c.into_members-name-items.ensures.value in
    subst (λ done. MarksMembers ps a.next.now a.trees done a.next.now (members_of (into_iter_items c.into_iter-name-iterator.result))) (sym c.in_ok-marked.ensures)
    (subst (λ left. MarksMembers ps a.next.now a.trees _ a.next.now left) (sym all) (members_begin ps a.next.now a.trees))

pub mark_map-mark_at-requires : goal.mark_map-mark_at-requires
mark_map-mark_at-requires t c =
    let l = c.loop-name in
    let a = c.args in
    let left = members_of (into_iter_items c.next.new.self) in
    let ps = rests_of a.paths.now in
    let so : MarksMembers ps a.next.now a.trees l.marked l.next (member c.in-Some.name (tree_of c.in-Some.tree) left) =
    subst (λ ms. MarksMembers ps a.next.now a.trees l.marked l.next (members_of ms)) c.in-Some.ensures.steps.0 l.invariant in
    let step = ap (λ s. headed s ps) c.as_str.ensures in
    let few = c.requires.few in
    let so_far = so.few in
    let low = so.low in
    let small = so.small in
    (omega (arith, small, deep-le c.in-Some.tree), (omega (arith, low, c.requires.depth), (c.requires.sorted, omega (arith, step, few, so_far, taken_more c.in-Some.name (names left) ps, names_le a.trees ps c.into_members-name-items.ensures.ordered))))

pub mark_map-loop-name-preserved : goal.mark_map-loop-name-preserved
mark_map-loop-name-preserved t c =
    let l = c.loop-name in
    let a = c.args in
    let k = c.in-Some.name in
    let u = tree_of c.in-Some.tree in
    let left = members_of (into_iter_items c.next.new.self) in
    let ps = rests_of a.paths.now in
    let so : MarksMembers ps a.next.now a.trees l.marked l.next (member k u left) = subst (λ ms. MarksMembers ps a.next.now a.trees l.marked l.next (members_of ms)) c.in-Some.ensures.steps.0 l.invariant in
    let text = c.as_str.ensures in
    let step = ap (λ s. headed s ps) text in
    let told = c.in_ok-mark.ensures in
    let few = told.few in
    let at : IsMarkedAt (is_among ps) l.next c.as_str.result.now u c.in_ok-mark.mark (marked_of c.in_ok-mark.inside) c.mark_at.new.next = record { own_is = told.own; inside_is = told.inside; next_is = told.next } in
    let here = subst (λ s. IsMarkedAt (is_among ps) l.next s u c.in_ok-mark.mark (marked_of c.in_ok-mark.inside) c.mark_at.new.next) text at in
    let next = members_more ps a.next.now a.trees c.into_members-name-items.ensures.ordered l.marked l.next k u left so c.in_ok-mark.mark (marked_of c.in_ok-mark.inside) c.mark_at.new.next here (omega (arith, step, few)) in
    subst (λ done. MarksMembers ps a.next.now a.trees done c.mark_at.new.next left) (sym c.in_ok-put.ensures.ok) next

map_done : (t : ℕ) (c : goal.mark_map-After-drop-name-iterator-2 t) → MarksMembers (rests_of c.args.paths.now) c.args.next.now c.args.trees c.loop-name.marked c.loop-name.next no_members
map_done t c =
    let l = c.loop-name in
    let left = into_iter_items l.name-iterator in
    let none : left ≡ [] = nil_from_length left (sym l.name-iterator.rest.ok.0 ∙ c.in-None.ensures.steps.0) in
    subst (λ ms. MarksMembers (rests_of c.args.paths.now) c.args.next.now c.args.trees l.marked l.next (members_of ms)) none l.invariant

pub mark_map-returns-clause-marked : goal.mark_map-returns-clause-marked
mark_map-returns-clause-marked t c = sym (members_joined-none c.loop-name.marked) ∙ (map_done t c).marked

pub mark_map-returns-clause-next : goal.mark_map-returns-clause-next
mark_map-returns-clause-next t c = let counted = (map_done t c).counted in omega (arith, counted)

pub mark_map-returns-clause-few : goal.mark_map-returns-clause-few
mark_map-returns-clause-few t c =
    let so_far = (map_done t c).few in
    omega (arith, so_far, names_le c.args.trees (rests_of c.args.paths.now) c.into_members-name-items.ensures.ordered)
