-- Not needed to believe the program's promises: sets of numbers, as their members in rising order.
use Rattle.std.specs.Prelude.{ℕ, ◌<◌, List, [], ◌∷◌, eqb, Bool}
use Rattle.std.specs.List.{list_any}

-- the number is one of them
abbrev pub has : List ℕ → ℕ → Bool
has numbers i = list_any (eqb i) numbers

abbrev pub AllAbove : ℕ → List ℕ → Type 0
AllAbove i [] = Unit {0}
AllAbove i (j ∷ numbers) = (i < j) × AllAbove i numbers

-- each is greater than all before it
abbrev pub IsRising : List ℕ → Type 0
IsRising [] = Unit {0}
IsRising (i ∷ numbers) = AllAbove i numbers × IsRising numbers
