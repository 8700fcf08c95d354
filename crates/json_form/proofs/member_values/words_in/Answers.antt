use Rattle.std.proofs.Common.{◌∷◌, ◌++◌, [], sym, ◌∙◌, ap, append_assoc}
use Rattle.std.specs.Vec.Iter.{into_iter_items}
use Rattle.claim_tree.specs.Tree.{array}
use Rattle.claim_tree.specs.View.{tree_of}
use Rattle.claim_tree.specs.ListViews.{elements_of}
use Rattle.json_form.proofs.WordLists.{odd_word, more_words}
use Rattle.json_form.proofs.member_values.words_in.Goals as goal

pub returns-in_default-word_in-clause-none : goal.returns-in_default-word_in-clause-none
returns-in_default-word_in-clause-none c =
    let l = c.loop-item in
    let all = l.invariant.1 ∙ ap (λ ts. array (elements_of (l.yielded ++ ts))) c.in-Some.ensures.steps.0 in
    odd_word (tree_of c.args.tree) l.yielded c.in-Some.item (into_iter_items c.next.new.self) all c.in_default-word_in.ensures.none

pub loop-item-preserved : goal.loop-item-preserved
loop-item-preserved c =
    let l = c.loop-item in
    let rest = into_iter_items c.next.new.self in
    let all = l.invariant.1 ∙ ap (λ ts. array (elements_of (l.yielded ++ ts))) c.in-Some.ensures.steps.0 in
    let more = more_words l.words l.yielded c.in-Some-word_in.word c.in-Some.item l.invariant.0 c.in-Some-word_in.ensures.some in
    (rw c.in_ok-push.ensures.ok more, all ∙ ap (λ ts. array (elements_of ts)) (sym (append_assoc l.yielded (c.in-Some.item ∷ []) rest)))
