-- Not needed to believe the program's promises: what the laws of marking and choosing say.
use Rattle.std.specs.Prelude.{◌≡◌, ℕ, List, length, ltb, Some, if◌then◌else◌}
use Rattle.claim_tree.specs.Tree.{Tree}
use Rattle.sd_outside.specs.Lists.{StandsAt}
use Rattle.marked_tree.specs.LeftOut.{shown}
use Rattle.marked_tree.specs.Marked.{Marked, strip, prune}
use Rattle.marked_tree.specs.Ways.{weight, only, closing}
use Rattle.marked_tree.specs.Paths.{Path, mark, hidden_count, is_among, mark_path, chosen}
use Rattle.marked_tree.specs.Choice.{IsUnmixed, IsLeastChoice}

abbrev pub MarkStrips : Type 0
MarkStrips = (t : Tree) (hide : List Path) → strip (mark t hide) ≡ t

-- each number below n is the mark of exactly one node, and no node has another mark
abbrev pub HasEachMarkOnce : Marked → ℕ → Type 0
HasEachMarkOnce m n = (i : ℕ) → weight (only i) m ≡ (if ltb i n then 1 else 0)

abbrev pub MarksOnce : Type 0
MarksOnce = (t : Tree) (hide : List Path) → HasEachMarkOnce (mark t hide) (hidden_count t hide)

-- mark k stands at the hidden place that has k others before it in closing order
pub record IsClosing (t : Tree) (hide : List Path) : Type 0 where
  pub count : length (closing (is_among hide) t) ≡ hidden_count t hide
  pub places : (k : ℕ) (q : Path) → StandsAt (closing (is_among hide) t) k q
      → mark_path (mark t hide) k ≡ Some q

abbrev pub MarksClose : Type 0
MarksClose = (t : Tree) (hide : List Path) → IsClosing t hide

-- the chosen marks are closed, and the least that keep the way to each wanted path
abbrev pub Choice : Type 0
Choice = (m : Marked) (want : List Path) → IsUnmixed m → IsLeastChoice m want (chosen m want)

-- what a choice of marks leaves is what is shown
abbrev pub ChosenIsLeft : Type 0
ChosenIsLeft =
    (t : Tree) (hide want : List Path)
    → strip (prune (mark t hide) (chosen (mark t hide) want)) ≡ shown hide want t
