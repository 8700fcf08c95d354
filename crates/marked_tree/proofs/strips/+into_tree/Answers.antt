use Rattle.std.proofs.Common.{◌∷◌, ◌++◌, [], sym, ◌∙◌, ap, subst, append_assoc, arith}
use Rattle.std.specs.Vec.Iter.{into_iter_items}
use Rattle.claim_tree.specs.Tree.{MembersOrdered}
use Rattle.marked_tree.specs.Marked.{strip_members}
use Rattle.marked_tree.specs.View.{marked_elements_of, marked_members_of}
use Rattle.marked_tree.proofs.MarkedViews.{Element, Entry}
use Rattle.marked_tree.proofs.MarkedWalks.{into_taken_element, into_taken_member, stripped-taken, stripped_member-taken}
use Rattle.marked_tree.proofs.strips.+into_tree.Goals as goal

pub list_into_trees-into_tree-requires : goal.list_into_trees-into_tree-requires
list_into_trees-into_tree-requires t c =
    let l = c.loop-tree in
    let e : Element = (c.in-Some.field-0-0, c.in-Some.tree) in
    let all = ap (λ es. marked_elements_of (l.yielded ++ es)) (sym c.in-Some.ensures.steps.0) ∙ l.invariant.1 in
    let step = into_taken_element l.yielded e (into_iter_items c.next.new.self) c.args.list all c.requires in
    (omega (arith, step.0), step.1)

pub map_into_trees-into_tree-requires : goal.map_into_trees-into_tree-requires
map_into_trees-into_tree-requires t c =
    let l = c.loop-name in
    let m : Entry = (c.in-Some.name, c.in-Some.field-0-1, c.in-Some.tree) in
    let all = ap (λ ms. marked_members_of (l.yielded ++ ms)) (sym c.in-Some.ensures.steps.0) ∙ l.invariant.1 in
    let step = into_taken_member l.yielded m (into_iter_items c.next.new.self) c.args.map all c.requires in
    (omega (arith, step.0), step.1)

pub list_into_trees-loop-tree-preserved : goal.list_into_trees-loop-tree-preserved
list_into_trees-loop-tree-preserved t c =
    let l = c.loop-tree in
    let e : Element = (c.in-Some.field-0-0, c.in-Some.tree) in
    let rest = into_iter_items c.next.new.self in
    let all = ap (λ es. marked_elements_of (l.yielded ++ es)) (sym c.in-Some.ensures.steps.0) ∙ l.invariant.1 in (
      rw (c.in_ok-push.ensures.ok, l.invariant.0, c.in_ok-into_tree.ensures) (sym (stripped-taken l.yielded e)),
      ap marked_elements_of (append_assoc l.yielded (e ∷ []) rest) ∙ all,
    )

pub map_into_trees-loop-name-preserved : goal.map_into_trees-loop-name-preserved
map_into_trees-loop-name-preserved t c =
    let l = c.loop-name in
    let m : Entry = (c.in-Some.name, c.in-Some.field-0-1, c.in-Some.tree) in
    let rest = into_iter_items c.next.new.self in
    let all = ap (λ ms. marked_members_of (l.yielded ++ ms)) (sym c.in-Some.ensures.steps.0) ∙ l.invariant.1 in
    let ordered = subst (λ us. MembersOrdered (strip_members us)) (sym all) c.into_members-name-items.ensures.ordered in (
      rw (c.in_ok-insert.ensures.ok, l.invariant.0, c.in_ok-into_tree.ensures) (sym (stripped_member-taken l.yielded m rest ordered)),
      ap marked_members_of (append_assoc l.yielded (m ∷ []) rest) ∙ all,
    )
