use Rattle.std.proofs.Common.{ℕ, ◌<◌, ◌≤◌, length}
use Rattle.sd_outside.specs.Limits.{binding_text_max}
use Rattle.claim_tree.specs.Tree.{Text}
use Rattle.sd_outside.specs.Lists.{StandsAt}
use Rattle.verifier_core.proofs.policy_version.are_short.Given as goal

abbrev pub invariant-loop-i : goal.invariant-loop-i
invariant-loop-i l = (j : ℕ) (s : Text) → j < l.i → StandsAt l.fn.texts j s → length s ≤ binding_text_max
