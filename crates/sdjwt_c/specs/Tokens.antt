-- Not needed to believe the program's promises: the tokens of a wallet, as C
-- gives them: one behind the other, with their lengths.
use Rattle.std.specs.Prelude.{◌≡◌, ◌<◌, ◌≤◌, ℕ, List, [], ◌∷◌, length, take, drop}
use Rattle.std.specs.List.{sum}
use Rattle.sd_outside.specs.Limits.{tokens_max}

-- the pieces of a text that have these lengths
abbrev pub pieces : List ℕ → List ℕ → List (List ℕ)
pieces [] text = []
pieces (one ∷ more) text = take one text ∷ pieces more (drop one text)

-- these are the lengths of 1 to 64 pieces of the text, and of all of it
pub record AreLengths (lengths text : List ℕ) : Type 0 where
  pub some : 0 < length lengths
  pub within : length lengths ≤ tokens_max
  pub whole : sum lengths ≡ length text
