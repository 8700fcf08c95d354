use Rattle.std.proofs.Common.{ℕ, ◌<◌}
use Rattle.claim_tree.specs.ListViews.{elements_of}
use Rattle.json_form.specs.Json.{IsStray}
use Rattle.json_form.proofs.signatures.first_stray.Given as goal

abbrev pub invariant-loop-place : goal.invariant-loop-place
invariant-loop-place l = (0 < l.place) × ((earlier : ℕ) → earlier < l.place → IsStray (elements_of l.entries) earlier → ⊥)
