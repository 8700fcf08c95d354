-- Which tool the words name.
use Rattle.std.specs.Prelude.{◌≡◌, ℕ, List, ◌∷◌}

-- the first word is this name
abbrev pub Names : List ℕ → List (List ℕ) → Type 0
Names name words = (rest : List (List ℕ)) × (words ≡ name ∷ rest)
