use Rattle.std.proofs.Common.{sym, ap, subst, ◌∙◌}
use Rattle.compact_form.specs.Compact.{hashed}
use Rattle.compact_form.proofs.Unique.{one_spelling}
use Rattle.json_form.specs.declared.token.Token.{Token}
use Rattle.json_form.specs.Source.{source_parts, IsSourceSpelled}
use Rattle.json_form.proofs.token_text.TokenText.hashed.Goals as goal

pub returns-in-Owned : goal.returns-in-Owned
returns-in-Owned c =
    let spelled = subst IsSourceSpelled c.in-Owned.is c.self.invariant in
    let parts = one_spelling c.view_of.result c.in-Owned.field-0 c.in-Owned.compact c.view_of.ensures spelled ∙ sym (ap source_parts c.in-Owned.is) ∙ ap (λ (t : Token). t.parts) c.self.view_is in
    c.hashed-in-Owned.ensures ∙ ap hashed parts
