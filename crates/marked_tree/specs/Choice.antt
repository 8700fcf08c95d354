-- Not needed to believe the program's promises: choices of marks.
use Rattle.std.specs.Prelude.{◌≡◌, ℕ, ◌≤◌, List, eqb, Bool, true, ◌&&◌, Option, Some, None, false}
use Rattle.std.specs.List.{list_any}
use Rattle.claim_tree.specs.Path.{is_front}
use Rattle.marked_tree.specs.Marked.{Marked}
use Rattle.marked_tree.specs.Closed.{IsClosed, KeepsTheWay}
use Rattle.marked_tree.specs.Paths.{Path, spots}
use Rattle.marked_tree.specs.Ways.{weight, only}

-- some node with mark i has a path that leads to p
abbrev pub is_on_way : Marked → Path → ℕ → Bool
is_on_way m p i = list_any (λ s. eqb s.mark i && is_front s.at p) (spots m)

-- the node has mark i
abbrev pub has_mark : Option ℕ → ℕ → Bool
has_mark None i = false
has_mark (Some j) i = eqb j i

-- no mark of s stands on two nodes
abbrev pub StandOnce : Marked → (ℕ → Bool) → Type 0
StandOnce m s = (i : ℕ) → s i ≡ true → weight (only i) m ≤ 1

-- no mark stands on two nodes
abbrev pub IsUnmixed : Marked → Type 0
IsUnmixed m = (i : ℕ) → weight (only i) m ≤ 1

-- s is closed and keeps the way to each wanted path, and each set that keeps it has all of s
pub record IsLeastChoice (m : Marked) (want : List Path) (s : ℕ → Bool) : Type 0 where
  pub closed : IsClosed m s
  pub keeps : KeepsTheWay m want s
  pub least : (other : ℕ → Bool) → KeepsTheWay m want other → (i : ℕ) → s i ≡ true → other i ≡ true
