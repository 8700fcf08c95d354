-- A text as lines.
use Rattle.std.specs.Prelude.{◌≡◌, ◌≢◌, ℕ, List, [], ◌∷◌, ◌++◌}
use Rattle.std.specs.List.{AllByRecursion, flat_map}
use Rattle.cli_parts.specs.Lines.{line}

-- no line end stands in the text
abbrev pub IsOneLine : List ℕ → Type 0
IsOneLine text = AllByRecursion (λ byte. byte ≢ 10) text

-- the lines that end in a text, each without its line end, and what stands behind the last line end
pub record IsCut (text : List ℕ) (ended : List (List ℕ)) (rest : List ℕ) : Type 0 where
  pub whole : text ≡ flat_map line ended ++ rest
  pub lines : AllByRecursion IsOneLine ended
  pub unended : IsOneLine rest

-- what stands behind the last line end as a line, where it is not empty
abbrev pub last_line : List ℕ → List (List ℕ)
last_line [] = []
last_line (byte ∷ bytes) = (byte ∷ bytes) ∷ []

-- the lines of a text: those that end, and a last one that does not
pub record AreLines (text : List ℕ) (lines : List (List ℕ)) : Type 0 where
  pub ended : List (List ℕ)
  pub rest : List ℕ
  pub cut : IsCut text ended rest
  pub lines_are : lines ≡ ended ++ last_line rest
