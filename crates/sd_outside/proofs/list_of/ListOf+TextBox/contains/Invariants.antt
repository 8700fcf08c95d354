use Rattle.std.proofs.Common.{ℕ, ◌<◌}
use Rattle.sd_outside.specs.Lists.{StandsAt}
use Rattle.sd_outside.proofs.list_of.ListOf+TextBox.contains.Given as goal

abbrev pub invariant-loop-i : goal.invariant-loop-i
invariant-loop-i l = (j : ℕ) → j < l.i → StandsAt l.fn.self j l.fn.text → ⊥
