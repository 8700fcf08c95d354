-- For private functions: where a name stands among ascending names.
use Rattle.std.specs.Prelude.{ℕ, ◌<◌, ◌≤◌, List, length}
use Rattle.claim_tree.specs.Tree.{Text, IsBefore}
use Rattle.sd_outside.specs.Lists.{StandsAt}

-- the names before i come before the name, and the others after it
pub record IsNameGap (names : List Text) (name : Text) (i : ℕ) : Type 0 where
  pub within : i ≤ length names
  pub before : (k : ℕ) (other : Text) → StandsAt names k other → k < i → IsBefore other name
  pub after : (k : ℕ) (other : Text) → StandsAt names k other → i ≤ k → IsBefore name other
