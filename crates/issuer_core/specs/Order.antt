-- What an issuer is asked for, RFC 9901 section 4.2.
use Rattle.std.specs.Prelude.{List, Option}
use Rattle.claim_tree.specs.Tree.{Text, Tree}
use Rattle.claim_tree.specs.View.{tree_of}
use Rattle.disclosure.specs.declared.digests.HashAlg.{HashAlg}
use Rattle.issuer_core.specs.declared.order.Decoy.{Decoy}
use Rattle.issuer_core.specs.declared.order.Order as code

-- the payload before anything is hidden, the places to hide, the entries of
-- decoys, what the header names, and the hash of the digests
pub record Order : Type 0 where
  pub payload : Tree
  pub hide : List (List Text)
  pub decoys : List Decoy
  pub kid : Option Text
  pub typ : Option Text
  pub hash : HashAlg

abbrev pub order_of : code.Order → Order
order_of o =
    record {
      payload = tree_of o.payload;
      hide = o.hide;
      decoys = o.decoys;
      kid = o.kid;
      typ = o.typ;
      hash = o.hash;
    }
