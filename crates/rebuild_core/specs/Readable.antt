-- The order of the names in what a token says.
use Rattle.std.specs.Prelude.{List}
use Rattle.claim_tree.specs.Tree.{Tree, IsOrdered}
use Rattle.sd_outside.specs.Lists.{In}
use Rattle.digest_sites.specs.Given.{Given}

-- the names of each object ascend, each once, as they do in every tree that is read
pub record IsReadable (p : Tree) (given : List Given) : Type 0 where
  pub in_payload : IsOrdered p
  pub in_values : (x : Given) → In x given → IsOrdered x.value
