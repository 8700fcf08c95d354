use Rattle.std.proofs.Common.{◌≡◌, true, false, nat_eq, sym, ◌∙◌}
use Rattle.std.specs.List.{starts_with}
use Rattle.claim_tree.proofs.PathSteps.{front_by_text, no_front}
use Rattle.claim_tree.proofs.path.is_prefix.Goals as goal

pub returns-then-starts_with : goal.returns-then-starts_with
returns-then-starts_with c =
    let begin : starts_with nat_eq c.whole.inside.ends.items c.front.inside.ends.items ≡ true =
    rw (← c.deref.ensures.value, ← c.as_slice.ensures.value) (sym c.starts_with.ensures.value ∙ c.if-starts_with.true) in
    c.starts_with-then-starts_with.ensures.value
    ∙ rw (c.as_bytes.ensures.value, c.as_bytes-then-starts_with.ensures.value, ← c.front.view_is, ← c.whole.view_is) (front_by_text _ _ _ _ c.front.invariant c.whole.invariant begin)

pub returns-else-starts_with : goal.returns-else-starts_with
returns-else-starts_with c =
    let other : starts_with nat_eq c.whole.inside.ends.items c.front.inside.ends.items ≡ false =
    rw (← c.deref.ensures.value, ← c.as_slice.ensures.value) (sym c.starts_with.ensures.value ∙ c.if-starts_with.false) in
    c.if-starts_with.false ∙ sym (rw (← c.front.view_is, ← c.whole.view_is) (no_front _ _ _ _ c.front.invariant c.whole.invariant other))
