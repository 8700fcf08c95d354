use Rattle.std.proofs.Common.{sym, ◌∙◌}
use Rattle.std.proofs.lemmas.Bool.{true≢false}
use Rattle.claim_tree.specs.View.{tree_of}
use Rattle.audit_core.proofs.Sorteds.{lists_are, are_lists, values_are, are_values}
use Rattle.audit_core.proofs.sorted.has_sorted_digests.Goals as goal

pub returns-then-is_sorted : goal.returns-then-is_sorted
returns-then-is_sorted c = (
  (λ e. record { in_payload = lists_are (tree_of c.args.payload.now) (sym c.is_sorted.ensures ∙ c.if-is_sorted.true); in_values = values_are c.args.given.now (sym c.are_values_sorted.ensures ∙ e) }),
  (λ h. c.are_values_sorted.ensures ∙ are_values c.args.given.now h.in_values),
)

pub returns-else-is_sorted : goal.returns-else-is_sorted
returns-else-is_sorted c = (
  (λ e. absurd (true≢false (sym e ∙ c.if-is_sorted.false))),
  (λ h. c.is_sorted.ensures ∙ are_lists (tree_of c.args.payload.now) h.in_payload),
)
