-- Two texts of a list that are equal.
use Rattle.std.specs.Prelude.{ℕ, ◌<◌, List}
use Rattle.claim_tree.specs.Tree.{Text}
use Rattle.sd_outside.specs.Lists.{StandsAt, Repeats, IsLeast}

-- the text at place i stands at the later place j as well
pub record IsEqualAt (texts : List Text) (j i : ℕ) : Type 0 where
  pub before : i < j
  pub text : Text
  pub here : StandsAt texts i text
  pub again : StandsAt texts j text

-- j is the first place whose text stands earlier as well, and i the first at which it does
pub record IsFirstClash (texts : List Text) (i j : ℕ) : Type 0 where
  pub later : IsLeast (Repeats texts) j
  pub earlier : IsLeast (IsEqualAt texts j) i
