use Rattle.std.proofs.Common.{◌≡◌, ℕ, ◌<◌, take}
use Rattle.sd_outside.specs.Lists.{Repeats}
use Rattle.issuer_core.proofs.clash.first_clash.Given as goal

abbrev pub invariant-loop-j : goal.invariant-loop-j
invariant-loop-j l = (l.index ≡ take l.j l.digests) × ((q : ℕ) → q < l.j → Repeats l.digests q → ⊥)
