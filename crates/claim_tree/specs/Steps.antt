-- For private functions: the steps of a path, in the text in which they stand.
-- Contracts see the list of the steps.
use Rattle.std.specs.Prelude.{◌≡◌, ℕ, suc, ◌+◌, ◌≤◌, List, [], ◌∷◌, length, slice_index, slice_range, ◌==◌, if◌then◌else◌}
use Rattle.std.specs.Str.{IsCharBoundary}

-- the pieces of a text from the start to the first end, and then from one end
-- to the next, without the slash of each
abbrev pub steps_between : ℕ → List ℕ → List ℕ → List (List ℕ)
steps_between start [] text = []
steps_between start (end ∷ ends) text =
    slice_range text (start + 1) end ∷ steps_between end ends text

-- ends rise from the start to the end of the text; a slash stands behind each
-- but the last, and none cuts a character in two
abbrev pub AreEnds : ℕ → List ℕ → List ℕ → Type 0
AreEnds start [] text = start ≡ length text
AreEnds start (end ∷ ends) text =
    (slice_index text start ≡ 47) × IsCharBoundary text (start + 1) × (start + 1 ≤ end)
    × AreEnds end ends text

-- where slashes stand, counted from the given position
abbrev pub slashes_from : ℕ → List ℕ → List ℕ
slashes_from i [] = []
slashes_from i (byte ∷ bytes) =
    if byte == 47 then i ∷ slashes_from (suc i) bytes else slashes_from (suc i) bytes

-- the text of a pointer that has a step
abbrev pub StartsWithSlash : List ℕ → Type 0
StartsWithSlash text = (rest : List ℕ) × (text ≡ 47 ∷ rest)
