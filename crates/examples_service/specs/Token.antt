-- Not needed to believe the program's promises: what the service issues.
use Rattle.std.specs.Prelude.{List, [], None}
use Rattle.sdjwt_lib.specs.claim_tree.Tree.{Text, Tree}
use Rattle.sdjwt_lib.specs.compact_form.declared.parts.Parts.{Parts}
use Rattle.sdjwt_lib.specs.compact_form.Compact.{IsCompact}
use Rattle.sdjwt_lib.specs.disclosure.declared.digests.HashAlg.{HashAlg}
use Rattle.sdjwt_lib.specs.hmac_sign.Signatures.{Meaning}
use Rattle.sdjwt_lib.specs.issuer_core.Order.{Order}
use Rattle.sdjwt_lib.specs.issuer_core.Digests.{Maker}
use Rattle.sdjwt_lib.specs.issuer_core.Written.{IsIssued, IsLaidOut}

-- the order that hides these places of a payload by SHA-256, and asks for nothing else
abbrev pub order_for : Tree → List (List Text) → Order
order_for payload hide =
    record {
      payload = payload;
      hide = hide;
      decoys = [];
      kid = None;
      typ = None;
      hash = HashAlg.Sha256;
    }

-- the text is the compact text of parts that are laid out and issued for the
-- order, with signatures of this algorithm
pub record IsTokenFor (maker : Maker) (o : Order) (alg : Text) (good : Meaning) (text : Text)
    : Type 0 where
  pub parts : Parts
  pub issued : IsIssued maker o alg good parts
  pub laid : IsLaidOut maker o alg good parts
  pub text_is : IsCompact parts text
