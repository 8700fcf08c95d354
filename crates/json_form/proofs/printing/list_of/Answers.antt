use Rattle.std.proofs.Common.{[], ◌∷◌, ◌++◌, append_assoc, sym, ap, ◌∙◌, rules}
use Rattle.claim_tree.proofs.TreeValues.{text_elements-push}
use Rattle.json_form.proofs.printing.list_of.Goals as goal

pub loop-text-init : goal.loop-text-init
loop-text-init c = record { done = []; stand = search rules; made = search rules }

pub loop-text-preserved : goal.loop-text-preserved
loop-text-preserved c =
    let l = c.loop-text.invariant in
    let text = c.in-Some.text.now in
    record {
      done = l.done ++ text ∷ [];
      stand = l.stand ∙ (ap (λ w. l.done ++ w) c.in-Some.ensures.steps ∙ sym (append_assoc l.done (text ∷ []) c.next.new.self));
      made = rw (c.in_ok-push.ensures.ok, l.made, c.in_ok-make.ensures) (sym (text_elements-push l.done text));
    }
