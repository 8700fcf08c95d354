use Rattle.std.proofs.Common.{◌++◌, ◌∷◌, [], List, ◌∙◌, subst}
use Rattle.std.proofs.lemmas.List.{drop_all}
use Rattle.marked_tree.specs.Numbers.{has}
use Rattle.marked_tree.specs.Paths.{Path, spots, elements_spots, members_spots}
use Rattle.marked_tree.specs.View.{marked_of, marked_elements_of, marked_members_of}
use Rattle.marked_tree.proofs.MarkedViews.{Element, Entry}
use Rattle.selection_core.specs.Asked.{own_seen, seen_from, IsAskedOnWalk}
use Rattle.selection_core.proofs.Asking.{IsAskedThrough, asked_none, asked_append, node_asked, asked_skipped, element_seen, member_seen, popped}
use Rattle.selection_core.proofs.allowing.Asking.+ask.Goals as goal

pub ask_elements-loop-i-preserved : goal.ask_elements-loop-i-preserved
ask_elements-loop-i-preserved g t c =
    let seen = element_seen c.args.walk.now.at c.loop-i.i c.elements-element-items.result.now c.element-item.result c.loop-i-test.true c.element-item.is in (
      c.in_ok-ask_node.ensures.at ∙ c.loop-i.invariant.0,
      node_asked g.F.Fn c.args.self.now.consent.now (has c.args.self.now.chosen.now) _ _ _ _ _ _ _ _ _ _ _ _ seen c.loop-i.invariant.1 c.loop-i.invariant.0 c.format.ensures.text c.in_ok-ask_node.ensures.asked,
    )

pub ask_elements-returns-clause-asked : goal.ask_elements-returns-clause-asked
ask_elements-returns-clause-asked g t c =
    let es : List Element = c.elements-element-items.result.now in
    let done = subst (λ (us : List Element). IsAskedThrough g.F.Fn c.args.self.now.consent.now (has c.args.self.now.chosen.now) (seen_from c.args.walk.now.at (elements_spots c.loop-i.i (marked_elements_of us))) (seen_from c.args.walk.now.at (elements_spots 0 (marked_elements_of es))) c.args.walk.now.refused c.loop-i.walk.refused)
    (drop_all c.loop-i.i es c.loop-i-test.false) c.loop-i.invariant.1 in
    subst (λ us. IsAskedOnWalk g.F.Fn c.args.self.now.consent.now (has c.args.self.now.chosen.now) (seen_from c.args.walk.now.at (elements_spots 0 us)) c.args.walk.now.refused c.loop-i.walk.refused) c.elements-element-items.ensures.value
    (done c.loop-i.walk.refused (asked_none g.F.Fn c.args.self.now.consent.now (has c.args.self.now.chosen.now) c.loop-i.walk.refused))

pub ask_members-loop-name-preserved : goal.ask_members-loop-name-preserved
ask_members-loop-name-preserved g t c =
    let seen = member_seen c.args.walk.now.at c.loop-name.name-index c.members-name-items.result.now c.loop-name-item.result c.loop-name-test.true c.loop-name-item.is in (
      c.in_ok-ask_node.ensures.at ∙ c.loop-name.invariant.0,
      node_asked g.F.Fn c.args.self.now.consent.now (has c.args.self.now.chosen.now) _ _ _ _ _ _ _ _ _ _ _ _ seen c.loop-name.invariant.1 c.loop-name.invariant.0 c.as_str.ensures c.in_ok-ask_node.ensures.asked,
    )

pub ask_members-returns-clause-asked : goal.ask_members-returns-clause-asked
ask_members-returns-clause-asked g t c =
    let ms : List Entry = c.members-name-items.result.now in
    let done = subst (λ (us : List Entry). IsAskedThrough g.F.Fn c.args.self.now.consent.now (has c.args.self.now.chosen.now) (seen_from c.args.walk.now.at (members_spots (marked_members_of us))) (seen_from c.args.walk.now.at (members_spots (marked_members_of ms))) c.args.walk.now.refused c.loop-name.walk.refused)
    (drop_all c.loop-name.name-index ms c.loop-name-test.false) c.loop-name.invariant.1 in
    subst (λ us. IsAskedOnWalk g.F.Fn c.args.self.now.consent.now (has c.args.self.now.chosen.now) (seen_from c.args.walk.now.at (members_spots us)) c.args.walk.now.refused c.loop-name.walk.refused) c.members-name-items.ensures.value
    (done c.loop-name.walk.refused (asked_none g.F.Fn c.args.self.now.consent.now (has c.args.self.now.chosen.now) c.loop-name.walk.refused))

pub ask_node-returns-then-not-may_hold-clause-asked : goal.ask_node-returns-then-not-may_hold-clause-asked
ask_node-returns-then-not-may_hold-clause-asked g t c =
    asked_skipped g.F.Fn c.args.self.now.consent.now (has c.args.self.now.chosen.now) c.args.mark (c.args.walk.now.at ++ c.args.step.now ∷ []) (spots (marked_of c.args.tree.now)) c.args.walk.now.refused (c.may_hold.ensures.own c.if-not-may_hold.true) (c.may_hold.ensures.inside c.if-not-may_hold.true)

pub ask_node-returns-clause-asked : goal.ask_node-returns-clause-asked
ask_node-returns-clause-asked g t c =
    subst (λ (p : Path). IsAskedOnWalk g.F.Fn c.args.self.now.consent.now (has c.args.self.now.chosen.now) (own_seen c.args.mark p ++ seen_from p (spots (marked_of c.args.tree.now))) c.args.walk.now.refused c.ask_inside.new.walk.refused) c.in_ok-push.ensures.ok
    (asked_append g.F.Fn c.args.self.now.consent.now (has c.args.self.now.chosen.now) (own_seen c.args.mark c.push.new.self) (seen_from c.push.new.self (spots (marked_of c.args.tree.now))) _ _ _ c.ask.ensures.asked
    (subst (λ (p : Path). IsAskedOnWalk g.F.Fn c.args.self.now.consent.now (has c.args.self.now.chosen.now) (seen_from p (spots (marked_of c.args.tree.now))) c.ask.new.walk.refused c.ask_inside.new.walk.refused) c.ask.ensures.at c.in_ok-ask_inside.ensures.asked))

pub ask_node-returns-clause-at : goal.ask_node-returns-clause-at
ask_node-returns-clause-at g t c = popped c.args.walk.now.at c.ask_inside.new.walk.at c.pop.new.self c.args.step.now (c.in_ok-ask_inside.ensures.at ∙ c.ask.ensures.at ∙ c.in_ok-push.ensures.ok) c.pop.ensures
