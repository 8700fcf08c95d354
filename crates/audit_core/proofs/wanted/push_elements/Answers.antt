use Rattle.std.proofs.Common.{◌++◌, ◌∷◌, [], sym, ap, ap₂, append-nil, ◌∙◌, append_assoc}
use Rattle.audit_core.specs.Wanted.{element_texts}
use Rattle.audit_core.proofs.Loops.{elements_more}
use Rattle.audit_core.proofs.wanted.push_elements.Goals as goal

pub loop-i-init : goal.loop-i-init
loop-i-init c = λ at is. sym (append-nil c.args.wanted.now.items)

pub loop-i-preserved : goal.loop-i-preserved
loop-i-preserved c = λ at is.
    c.in_ok-push.ensures.items
    ∙ ap₂ (λ xs x. xs ++ x ∷ []) (c.loop-i.invariant at is) (c.in_ok-element_text.ensures at is)
    ∙ append_assoc c.args.wanted.now.items (element_texts at c.args.first c.loop-i.i) _
    ∙ ap (λ xs. c.args.wanted.now.items ++ xs) (sym (elements_more at c.loop-i.i c.args.first))
