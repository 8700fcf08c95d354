-- Not needed to believe the program's promises: what the laws ask of the cabinet.
use Rattle.std.specs.Prelude.{◌≡◌, ◌+◌, ℕ, List, Option, IsSomeAnd, take}
use Rattle.sd_outside.specs.Limits.{file_max}

-- the cabinet tells the file of this name, and this is what a fetch answers of it
abbrev pub IsFileTold : (List ℕ → Option (List ℕ)) → List ℕ → List ℕ → Type 0
IsFileTold holds name file = IsSomeAnd (holds name) (λ content. file ≡ take (file_max + 1) content)
