-- The token that is written for an order, RFC 9901 sections 4.1 and 4.2: its
-- texts, and the signature over them.
use Rattle.std.specs.Prelude.{◌≡◌, ℕ, List, None}
use Rattle.b64url_text.specs.Base64url.{b64}
use Rattle.claim_tree.specs.Tree.{Text, Tree, object}
use Rattle.claim_tree.specs.JsonText.{json_text}
use Rattle.compact_form.specs.declared.parts.Parts.{Parts}
use Rattle.hmac_sign.specs.Signatures.{Meaning}
use Rattle.jws_part.specs.declared.header.Header.{Header}
use Rattle.jws_part.specs.Header.{header_members}
use Rattle.digest_sites.specs.Given.{Given}
use Rattle.issuer_core.specs.Order.{Order}
use Rattle.issuer_core.specs.Digests.{Maker, made_texts}
use Rattle.issuer_core.specs.Laid.{with_alg, IsLaid}
use Rattle.issuer_core.specs.Issued.{IsIssuedFor}

-- the header says the name of the algorithm that signs
abbrev pub header_of : Text → Order → Header
header_of alg o = record { alg = alg; kid = o.kid; typ = o.typ }

-- the parts are the texts of this payload, to which the name of the order's
-- hash is put, and of these disclosures, with a good signature by the algorithm
-- of this name and without a key binding token
pub record IsWritten (maker : Maker) (o : Order) (alg : Text) (good : Meaning) (payload : Tree)
    (given : List Given) (parts : Parts) : Type 0 where
  pub protected : parts.signed.protected
      ≡ b64 (json_text (object (header_members (header_of alg o))))
  pub body : parts.signed.payload ≡ b64 (json_text (with_alg o.hash payload))
  pub signature : List ℕ
  pub signature_text : parts.signed.signature ≡ b64 signature
  pub signed : good parts.signed.protected parts.signed.payload signature
  pub disclosures : parts.disclosures ≡ made_texts maker.disclosure 0 given
  pub unbound : parts.binding ≡ None

-- the parts are issued for the order: what they show, and how they are written
pub record IsIssued (maker : Maker) (o : Order) (alg : Text) (good : Meaning) (parts : Parts)
    : Type 0 where
  pub payload : Tree
  pub given : List Given
  pub issued : IsIssuedFor maker o payload given
  pub written : IsWritten maker o alg good payload given parts

-- the parts are those of what is laid for the order
pub record IsLaidOut (maker : Maker) (o : Order) (alg : Text) (good : Meaning) (parts : Parts)
    : Type 0 where
  pub payload : Tree
  pub given : List Given
  pub digests : ℕ → Text
  pub laid : IsLaid maker o payload given digests
  pub written : IsWritten maker o alg good payload given parts
