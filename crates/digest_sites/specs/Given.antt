-- What disclosures give, RFC 9901 section 4.2.
use Rattle.std.specs.Prelude.{Option}
use Rattle.claim_tree.specs.Tree.{Text, Tree}

pub record Given : Type 0 where
  pub digest : Text
  pub name : Option Text
  pub value : Tree
