-- Not needed to believe the program's promises: why nothing is chosen.
use Rattle.std.specs.Prelude.{List}
use Rattle.claim_tree.specs.Tree.{Tree}
use Rattle.sd_outside.specs.Lists.{IsLeast}
use Rattle.marked_tree.specs.Paths.{Path}
use Rattle.selection_core.specs.declared.errors.ChooseError.{ChooseError}
use Rattle.selection_core.specs.declared.errors.ChooseError.TheVariants.{Memory, NoSuchPlace}
use Rattle.selection_core.specs.ChoiceRefusals.{IsMissing}

-- the first wanted path that leads nowhere; want of memory says nothing
abbrev pub IsChooseRefused : Tree → List Path → ChooseError → Type 0
IsChooseRefused t want Memory = Unit {0}
IsChooseRefused t want (NoSuchPlace k) = IsLeast (IsMissing t want) k
