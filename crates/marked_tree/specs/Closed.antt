-- Sets of marks that have all marks above each of theirs, or on the way to a path.
use Rattle.std.specs.Prelude.{◌≡◌, ℕ, List, Bool, true}
use Rattle.sd_outside.specs.Lists.{In}
use Rattle.claim_tree.specs.Path.{is_front}
use Rattle.marked_tree.specs.Marked.{Marked}
use Rattle.marked_tree.specs.Paths.{Path, Spot, spots}

-- for each node whose mark is in s, so are all marks above it
abbrev pub IsClosed : Marked → (ℕ → Bool) → Type 0
IsClosed m s =
    (node : Spot) → In node (spots m) → s node.mark ≡ true → (j : ℕ) → In j node.above → s j ≡ true

-- every node on the way to a wanted path stays: its own mark and all above it are in s
abbrev pub KeepsTheWay : Marked → List Path → (ℕ → Bool) → Type 0
KeepsTheWay m want s =
    (node : Spot) → In node (spots m) → (p : Path) → In p want → is_front node.at p ≡ true
    → (s node.mark ≡ true) × ((j : ℕ) → In j node.above → s j ≡ true)
