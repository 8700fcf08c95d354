-- For private functions: paths in their order, of which none leads to another.
use Rattle.std.specs.Prelude.{◌≡◌, ◌≢◌, List, false}
use Rattle.std.specs.List.{AllPairs}
use Rattle.std.specs.declared.cmp.Ordering.TheVariants.{Greater}
use Rattle.claim_tree.specs.Path.{is_front}
use Rattle.marked_tree.specs.Paths.{Path}
use Rattle.marked_tree.specs.Rests.{path_order}

-- the first path does not come after the other, and does not lead to it
abbrev pub StandsBefore : Path → Path → Type 0
StandsBefore path other = (path_order path other ≢ Greater) × (is_front path other ≡ false)

abbrev pub AreOutermost : List Path → Type 0
AreOutermost paths = AllPairs StandsBefore paths
