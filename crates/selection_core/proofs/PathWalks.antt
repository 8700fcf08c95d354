-- A path followed step by step: the tree that is left, and the marks that were passed.
use Rattle.std.proofs.Common.{◌≡◌, ℕ, List, [], ◌||◌, sym, ap, ◌∙◌}
use Rattle.std.proofs.Math.Bool.{or-false}
use Rattle.claim_tree.specs.Path.{tree_at}
use Rattle.marked_tree.specs.Choice.{is_on_way}
use Rattle.marked_tree.specs.Marked.{Marked, strip}
use Rattle.marked_tree.specs.Numbers.{has}
use Rattle.marked_tree.specs.Paths.{Path}
use Rattle.marked_tree.proofs.StepFacts.{none_at_root}

-- the rest of the path leads from the tree inside to where the whole one leads
abbrev pub LeadsOn : Marked → Path → Marked → Path → Type 0
LeadsOn m whole inside rest = tree_at (strip inside) rest ≡ tree_at (strip m) whole

-- what was passed and what is on the rest of the way are what was there and what is on the whole way
abbrev pub ArePassed : List ℕ → Marked → Path → List ℕ → Marked → Path → Type 0
ArePassed before m whole marks inside rest = (i : ℕ) → (has marks i || is_on_way inside rest i) ≡ (has before i || is_on_way m whole i)

pub passed_all : (before marks : List ℕ) (m : Marked) (whole : Path) (inside : Marked) → ArePassed before m whole marks inside []
    → (i : ℕ) → has marks i ≡ (has before i || is_on_way m whole i)
passed_all before marks m whole inside passed i =
    sym (ap (λ b. has marks i || b) (none_at_root inside i) ∙ or-false (has marks i)) ∙ passed i
