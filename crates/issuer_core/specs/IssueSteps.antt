-- For private functions: what the steps of issuing answer.
use Rattle.std.specs.Prelude.{◌≡◌, List}
use Rattle.b64url_text.specs.Base64url.{b64}
use Rattle.claim_tree.specs.Tree.{Text, Tree, object}
use Rattle.claim_tree.specs.JsonText.{json_text}
use Rattle.jws_part.specs.declared.header.Header.{Header}
use Rattle.jws_part.specs.Header.{header_members}
use Rattle.issuer_core.specs.declared.errors.IssueError.{IssueError}
use Rattle.issuer_core.specs.declared.errors.IssueError.TheVariants.{Memory, DigestClash}
use Rattle.issuer_core.specs.declared.unsigned_token.UnsignedToken.{UnsignedToken}
use Rattle.issuer_core.specs.Clash.{IsFirstClash}

-- two of the digests are equal, first at these places
abbrev pub HasClash : List Text → IssueError → Type 0
HasClash digests Memory = Unit {0}
HasClash digests (DigestClash i j) = IsFirstClash digests i j
HasClash digests error = ⊥

-- what is to be signed has this header, this payload and these disclosures
pub record AreWritten (header : Header) (body : Tree) (texts : List Text) (token : UnsignedToken)
    : Type 0 where
  pub protected : token.jwt.protected ≡ b64 (json_text (object (header_members header)))
  pub payload : token.jwt.payload ≡ b64 (json_text body)
  pub disclosures : token.disclosures ≡ texts
