-- Why nothing is chosen, and why what is chosen is not shown.
use Rattle.std.specs.Prelude.{◌≡◌, ℕ, List, None}
use Rattle.claim_tree.specs.Tree.{Tree}
use Rattle.sd_outside.specs.Lists.{IsSuchAt}
use Rattle.claim_tree.specs.Path.{tree_at}
use Rattle.marked_tree.specs.Paths.{Path}

-- the wanted path with this number leads nowhere
abbrev pub IsMissing : Tree → List Path → ℕ → Type 0
IsMissing t want k = IsSuchAt (λ path. tree_at t path ≡ None) want k
