use Rattle.std.proofs.Common.{◌≡◌, ℕ, ◌<◌, take}
use Rattle.rebuild_core.specs.Reached.{given_digests}
use Rattle.rebuild_core.specs.Conditions.{RepeatedDisclosure}
use Rattle.rebuild_core.specs.LookUps.{counted}
use Rattle.rebuild_core.proofs.numbers.number_given.Given as goal

abbrev pub invariant-loop-i : goal.invariant-loop-i
invariant-loop-i l =
    (l.index ≡ take l.i (given_digests l.given)) × ((q : ℕ) → q < l.i → RepeatedDisclosure l.given q → ⊥) × (l.steps ≡ counted l.fn.steps l.i)
