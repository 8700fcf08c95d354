use Rattle.std.proofs.Common.{◌≡◌, Some, sym, ap, ap₂, ◌∙◌, arith}
use Rattle.claim_tree.specs.Tree.{Text, Tree, Elements, Members, element_at}
use Rattle.claim_tree.specs.TreeCalls.{member_at}
use Rattle.claim_tree.specs.View.{tree_of}
use Rattle.sd_outside.proofs.Lists.{pair_same}
use Rattle.marked_tree.specs.Marked.{strip}
use Rattle.marked_tree.specs.View.{marked_of}
use Rattle.marked_tree.proofs.MarkedViews.{Element, Entry}
use Rattle.marked_tree.proofs.StrippedSame.{turn_same, turn_same_members, differs_there, differs_there_members}
use Rattle.wallet_core.proofs.Sames.{is_not, is_so, elements_same, members_same, named_same, named_other}
use Rattle.wallet_core.proofs.values.+same.Goals as goal
use Rattle.wallet_core.proofs.values.+same.Goals.{have_same-then-ne-via-then-ne, have_same-then-ne-via-else-ne+then-not-is_same}

pub are_same-returns-in_default : goal.are_same-returns-in_default
are_same-returns-in_default t c =
    let items = c.elements-element-items in
    is_not _ (differs_there c.loop-i.i items.result.now c.args.values.now c.element-item.result c.args.list.now c.loop-i-test.true c.element-item.is items.ensures.value (λ there. let both = c.in_default.ensures ∙ there in cc both))

pub are_same-returns-then-not-is_same : goal.are_same-returns-then-not-is_same
are_same-returns-then-not-is_same t c =
    let items = c.elements-element-items in
    let us : Elements = c.args.values.now in
    let e : Element = c.element-item.result in
    let unlike : element_at us c.loop-i.i ≡ Some (strip (marked_of e.1)) → ⊥ =
    λ there.
    let both = c.in-Some.ensures ∙ there in
    let same : tree_of c.in-Some.value.now ≡ strip (marked_of e.1) = cc both in
    let yes = c.is_same.ensures.1 (sym same) in
    let no = sym c.if-not-is_same.true ∙ yes in cc no in
    is_not _ (differs_there c.loop-i.i items.result.now us e c.args.list.now c.loop-i-test.true c.element-item.is items.ensures.value unlike)

pub are_same-loop-i-preserved : goal.are_same-loop-i-preserved
are_same-loop-i-preserved t c =
    let e : Element = c.element-item.result in
    let there = sym c.in-Some.ensures ∙ ap Some (sym (c.is_same.ensures.0 c.if-not-is_same.false)) in
    turn_same c.loop-i.i c.elements-element-items.result.now c.args.values.now e c.loop-i-test.true c.element-item.is c.loop-i.invariant there

pub are_same-returns : goal.are_same-returns
are_same-returns t c =
    let items = c.elements-element-items in
    is_so _ (elements_same c.loop-i.i items.result.now c.args.values.now c.args.list.now (omega (arith, c.loop-i-test.false)) items.ensures.value (omega (arith, c.if-len.false, c.len.ensures, c.len-2.ensures)) c.loop-i.invariant)

pub have_same-returns-in_default : goal.have_same-returns-in_default
have_same-returns-in_default t c =
    let items = c.members-member-items in
    is_not _ (differs_there_members c.loop-i.i items.result.now c.args.values.now c.member-item.result c.args.map.now c.loop-i-test.true c.member-item.is items.ensures.value (λ there. let both = c.in_default.ensures ∙ there in cc both))

pub have_same-returns-then-ne : goal.have_same-returns-then-ne
have_same-returns-then-ne t c =
    let items = c.members-member-items in
    let us : Members = c.args.values.now in
    let m : Entry = c.member-item.result in
    let unlike : member_at us c.loop-i.i ≡ Some (m.0, strip (marked_of m.2)) → ⊥ =
    λ there.
    let both = pair_same c.in-Some.name.now m.0 (tree_of c.in-Some.value.now) (strip (marked_of m.2)) (c.in-Some.ensures ∙ there) in
    elim c.then-ne.branch [
      | have_same-then-ne-via-then-ne w ↦ named_other m.0 c.in-Some.name.now w.if-ne.ensures (sym both.0)
      | have_same-then-ne-via-else-ne+then-not-is_same w ↦ let yes = w.is_same.ensures.1 (sym both.1) in let no = sym w.if-not-is_same.true ∙ yes in cc no
    ] in
    is_not _ (differs_there_members c.loop-i.i items.result.now us m c.args.map.now c.loop-i-test.true c.member-item.is items.ensures.value unlike)

pub have_same-loop-i-preserved : goal.have_same-loop-i-preserved
have_same-loop-i-preserved t c =
    let m : Entry = c.member-item.result in
    let named = named_same m.0 c.in-Some.name.now c.if-ne.ensures in
    let same : strip (marked_of m.2) ≡ tree_of c.in-Some.value.now = c.is_same.ensures.0 c.if-not-is_same.false in
    let there = sym c.in-Some.ensures ∙ ap₂ (λ (n : Text) (u : Tree). Some (n, u)) (sym named) (sym same) in
    turn_same_members c.loop-i.i c.members-member-items.result.now c.args.values.now m c.loop-i-test.true c.member-item.is c.loop-i.invariant there

pub have_same-returns : goal.have_same-returns
have_same-returns t c =
    let items = c.members-member-items in
    is_so _ (members_same c.loop-i.i items.result.now c.args.values.now c.args.map.now (omega (arith, c.loop-i-test.false)) items.ensures.value (omega (arith, c.if-len.false, c.len.ensures, c.len-2.ensures)) c.loop-i.invariant)
