use Rattle.std.proofs.Common.{◌≡◌, refl, sym, ◌∙◌, string_bytes}
use Rattle.sd_outside.proofs.Lists.{bytes_same, bytes_refl}
use Rattle.claim_tree.proofs.PathSteps.{ends_of_steps, one_text}
use Rattle.claim_tree.proofs.path.Path.is_same.Goals as goal

pub returns-then-eq : goal.returns-then-eq
returns-then-eq c =
    let ends : c.self.inside.ends.items ≡ c.other.inside.ends.items = bytes_same _ _ (sym c.if-eq.ensures) in (
      λ yes.
          let text : string_bytes c.self.inside.text ≡ string_bytes c.other.inside.text = bytes_same _ _ (sym c.eq-then-eq.ensures ∙ yes) in
          rw (← c.self.view_is, ← c.other.view_is, ends, text) refl,
      λ same. c.eq-then-eq.ensures ∙ bytes_refl _ _ (one_text _ _ _ _ c.self.invariant c.other.invariant (c.self.view_is ∙ same ∙ sym c.other.view_is)),
    )

pub returns-else-eq : goal.returns-else-eq
returns-else-eq c = (
  λ yes. cc,
  λ same. c.eq.ensures ∙ bytes_refl _ _ (ends_of_steps 0 _ _ _ _ c.self.invariant c.other.invariant (c.self.view_is ∙ same ∙ sym c.other.view_is)),
)
