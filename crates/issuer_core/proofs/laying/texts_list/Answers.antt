use Rattle.std.proofs.Common.{◌≡◌, [], sym, ap, ◌∙◌}
use Rattle.std.specs.Vec.Iter.{into_iter_items}
use Rattle.std.proofs.lemmas.List.{nil_from_length}
use Rattle.claim_tree.specs.TreeValues.{text_elements}
use Rattle.issuer_core.specs.Laying.{elements_joined}
use Rattle.issuer_core.proofs.LayingElements.{text_more, joined_none}
use Rattle.issuer_core.proofs.laying.texts_list.Goals as goal

pub loop-text-preserved : goal.loop-text-preserved
loop-text-preserved c =
    let l = c.loop-text in
    let rest = into_iter_items c.next.new.self in
    ap (λ es. elements_joined es (text_elements rest)) c.in_ok-push.ensures.ok ∙ (text_more l.list c.in-Some.text (into_iter_items l.text-iterator) rest c.in-Some.ensures.steps.0 ∙ l.invariant)

pub returns : goal.returns
returns c =
    let l = c.loop-text in
    let left = into_iter_items l.text-iterator in
    let none : left ≡ [] = nil_from_length left (sym l.text-iterator.rest.ok.0 ∙ c.in-None.ensures.steps.0) in
    sym (joined_none l.list) ∙ (ap (λ ts. elements_joined l.list (text_elements ts)) (sym none) ∙ l.invariant)
