use Rattle.std.proofs.Common.{◌++◌, ap, ◌∙◌, arith}
use Rattle.std.proofs.lemmas.Result.{on_ok_weaker}
use Rattle.claim_tree.specs.ListViews.{elements_of, members_of}
use Rattle.claim_tree.proofs.TreeTokens.{elements_tokens, members_tokens, none_left, element_written, member_written}
use Rattle.claim_tree.proofs.tokens.+put.Goals as goal

pub put_elements-loop-tree-preserved : goal.put_elements-loop-tree-preserved
put_elements-loop-tree-preserved t c =
    let l = c.loop-tree in
    let ts = c.trees-tree-items.result.now in
    let done = c.in_ok-put_tree.ensures in (
      rw done.ok (element_written ts l.tree-index c.tree-item.result l.out.tokens _ c.loop-tree-test.true c.tree-item.is l.invariant.0),
      done.before ∙ l.invariant.1,
    )

pub put_elements-returns-clause-ok : goal.put_elements-returns-clause-ok
put_elements-returns-clause-ok t c =
    let l = c.loop-tree in
    let written = none_left (λ us. elements_tokens (elements_of us)) _ l.tree-index l.out.tokens _ (omega (arith, c.loop-tree-test.false)) l.invariant.0 in
    on_ok_weaker c.end_array.result (λ e. e ∙ written ∙ ap (λ us. c.args.out.now.tokens ++ elements_tokens us) c.trees-tree-items.ensures.value) c.end_array.ensures.ok

pub put_members-loop-name-preserved : goal.put_members-loop-name-preserved
put_members-loop-name-preserved t c =
    let l = c.loop-name in
    let ms = c.members-name-items.result.now in
    let done = c.in_ok-put_tree.ensures in
    let named = c.in_ok-key.ensures in (
      rw (done.ok, named.ok, c.as_str.ensures) (member_written ms l.name-index c.loop-name-item.result l.out.tokens _ c.loop-name-test.true c.loop-name-item.is l.invariant.0),
      done.before ∙ named.room.0 ∙ l.invariant.1,
    )

pub put_members-returns-clause-ok : goal.put_members-returns-clause-ok
put_members-returns-clause-ok t c =
    let l = c.loop-name in
    let written = none_left (λ us. members_tokens (members_of us)) _ l.name-index l.out.tokens _ (omega (arith, c.loop-name-test.false)) l.invariant.0 in
    on_ok_weaker c.end_object.result (λ e. e ∙ written ∙ ap (λ us. c.args.out.now.tokens ++ members_tokens us) c.members-name-items.ensures.value) c.end_object.ensures.ok
