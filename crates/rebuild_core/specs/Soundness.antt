-- What holds where no condition on the content fails.
use Rattle.std.specs.Prelude.{◌≤◌, List}
use Rattle.sd_outside.specs.Limits.{depth_max}
use Rattle.claim_tree.specs.Tree.{Tree, depth}
use Rattle.sd_outside.specs.Lists.{AtNone}
use Rattle.digest_sites.specs.Given.{Given}
use Rattle.marked_tree.specs.Marked.{strip}
use Rattle.rebuild_core.specs.Opening.{processed}
use Rattle.rebuild_core.specs.Conditions.{Misused, NameClash, RepeatedDigest, RepeatedDisclosure, ReservedName, Unreferenced, WrongShape}

-- 14 to 17: each disclosure stands at one place
pub record IsReferencedOnce (p : Tree) (given : List Given) : Type 0 where
  pub no_repeated_disclosure : AtNone (RepeatedDisclosure given)
  pub no_misuse : AtNone (Misused p given)
  pub no_repeated_digest : AtNone (RepeatedDigest p given)
  pub no_unreferenced : AtNone (Unreferenced p given)

-- 18 to 20: each disclosure fits its place
pub record IsWellNamed (p : Tree) (given : List Given) : Type 0 where
  pub no_wrong_shape : AtNone (WrongShape p given)
  pub no_reserved_name : AtNone (ReservedName p given)
  pub no_name_clash : AtNone (NameClash p given)

-- 14 to 21
pub record IsSound (p : Tree) (given : List Given) : Type 0 where
  pub referenced : IsReferencedOnce p given
  pub named : IsWellNamed p given
  pub shallow : depth (strip (processed p given)) ≤ depth_max
