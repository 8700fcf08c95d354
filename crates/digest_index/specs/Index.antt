-- Not needed to believe the program's promises: distinct texts in the order in
-- which they were first seen, and a count of look-ups.
use Rattle.std.specs.Prelude.{ℕ, suc, ◌+◌, ◌-◌, ◌^◌, min, List, [], ◌∷◌, bytes_eq, Option, None, Some, option_map, if◌then◌else◌}

abbrev pub Text : Type 0
Text = List ℕ

-- the position of a text, where it is there
abbrev pub position_of : Text → List Text → Option ℕ
position_of t [] = None
position_of t (x ∷ xs) = if bytes_eq t x then Some 0 else option_map suc (position_of t xs)

-- its position, or the length where it is not there
abbrev pub position_or_end : Text → List Text → ℕ
position_or_end t [] = 0
position_or_end t (x ∷ xs) = if bytes_eq t x then 0 else suc (position_or_end t xs)

-- the texts, with this one put at the end where it is new
abbrev pub interned : Text → List Text → List Text
interned t [] = t ∷ []
interned t (x ∷ xs) = if bytes_eq t x then x ∷ xs else x ∷ interned t xs

-- one more, short of the last value of a `u64`
abbrev pub ticked : ℕ → ℕ
ticked n = min (n + 1) (2 ^ 64 - 1)
