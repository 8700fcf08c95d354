use Rattle.std.proofs.Common.{◌++◌, ap, ap₂, ◌∙◌}
use Rattle.std.specs.Prelude.{codes}
use Rattle.audit_core.proofs.Wanteds.{element_place}
use Rattle.audit_core.proofs.wanted.element_text.Goals as goal

pub returns : goal.returns
returns c = λ at is.
    c.from_string.ensures ∙ c.in_ok-push_str-2.ensures.bytes
    ∙ ap₂ (λ x y. x ++ y) (c.in_ok-push_str.ensures.bytes ∙ ap (λ x. x ++ codes "/") c.in_ok-text.ensures) c.format.ensures.text
    ∙ element_place at c.args.pointer.now c.args.position c.ranges.position.fits is
