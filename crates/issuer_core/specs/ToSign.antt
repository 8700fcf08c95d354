-- Not needed to believe the program's promises: issuing in two steps, what is to be signed for an
-- order, and the token with a signature of anyone.
use Rattle.std.specs.Prelude.{◌≡◌, ℕ, ◌+◌, ◌<◌, List, [], length, None}
use Rattle.std.specs.List.{AllByRecursion}
use Rattle.b64url_text.specs.Base64url.{IsWord, b64}
use Rattle.claim_tree.specs.Tree.{Text, Tree, object}
use Rattle.claim_tree.specs.JsonText.{json_text}
use Rattle.sd_outside.specs.Limits.{issue_max}
use Rattle.compact_form.specs.declared.parts.Parts.{Parts}
use Rattle.compact_form.specs.Compact.{compact}
use Rattle.hmac_sign.specs.Signatures.{Meaning}
use Rattle.hmac_sign.specs.SignedJwt.{IsSignedWith}
use Rattle.jws_part.specs.Header.{header_members}
use Rattle.digest_sites.specs.Given.{Given}
use Rattle.issuer_core.specs.declared.errors.IssueError.{IssueError}
use Rattle.issuer_core.specs.declared.errors.IssueError.TheVariants.{Memory, SignFailed, DigestClash, TooLong}
use Rattle.issuer_core.specs.declared.unsigned_token.UnsignedToken.{UnsignedToken}
use Rattle.issuer_core.specs.Order.{Order}
use Rattle.issuer_core.specs.Decoys.{decoys_of}
use Rattle.issuer_core.specs.Digests.{Maker, hidden_of, made_texts}
use Rattle.issuer_core.specs.Laid.{with_alg, IsLaid}
use Rattle.issuer_core.specs.Issue.{ClashesAt}
use Rattle.issuer_core.specs.IssueCalls.{AllDiffer}
use Rattle.issuer_core.specs.OrderRefusals.{AppliesToOrder, IsLowestRefusal}
use Rattle.issuer_core.specs.Written.{header_of}

-- ---- what is to be signed

-- the texts of this payload, to which the name of the order's hash is put, and of these
-- disclosures, with the header for an algorithm of this name
pub record IsUnsignedToken (maker : Maker) (o : Order) (alg : Text) (payload : Tree)
    (given : List Given) (token : UnsignedToken) : Type 0 where
  pub protected : token.jwt.protected ≡ b64 (json_text (object (header_members (header_of alg o))))
  pub body : token.jwt.payload ≡ b64 (json_text (with_alg o.hash payload))
  pub disclosures : token.disclosures ≡ made_texts maker.disclosure 0 given

-- it is that of what is laid for the order, and its digests differ
pub record IsToSign (maker : Maker) (o : Order) (alg : Text) (token : UnsignedToken) : Type 0 where
  pub payload : Tree
  pub given : List Given
  pub digests : ℕ → Text
  pub laid : IsLaid maker o payload given digests
  pub differ : AllDiffer digests (hidden_of o + length (decoys_of o))
  pub unsigned : IsUnsignedToken maker o alg payload given token

-- each text is a base64url text that is not empty
pub record AreUnsignedWords (token : UnsignedToken) : Type 0 where
  pub protected : IsWord token.jwt.protected
  pub payload : IsWord token.jwt.payload
  pub disclosures : AllByRecursion IsWord token.disclosures

-- what each refusal says, where none with a lower number applies
abbrev pub AppliesToSign : Maker → Order → IssueError → Type 0
AppliesToSign maker o (DigestClash i j) = ClashesAt maker o i j
AppliesToSign maker o error = AppliesToOrder o error

-- why nothing is to be signed: by the lowest refusal that applies; want of memory says nothing
abbrev pub IsNotToSign : Maker → Order → IssueError → Type 0
IsNotToSign maker o Memory = Unit {0}
IsNotToSign maker o error = IsLowestRefusal (AppliesToSign maker o) error

-- ---- the token with a signature

-- it has this signature, and no key binding token
pub record IsTokenWith (token : UnsignedToken) (signature : List ℕ) (parts : Parts) : Type 0 where
  pub jwt : IsSignedWith token.jwt signature parts.signed
  pub disclosures : parts.disclosures ≡ token.disclosures
  pub unbound : parts.binding ≡ None

-- it has a signature that is good, and not empty
pub record IsTokenBy (token : UnsignedToken) (good : Meaning) (parts : Parts) : Type 0 where
  pub signature : List ℕ
  pub with_it : IsTokenWith token signature parts
  pub some : 0 < length signature
  pub signed : good token.jwt.protected token.jwt.payload signature

-- the signature has no bytes, or the token is too long with it; want of memory says nothing
abbrev pub IsUnmadeWith : UnsignedToken → List ℕ → IssueError → Type 0
IsUnmadeWith token signature Memory = Unit {0}
IsUnmadeWith token signature SignFailed = signature ≡ []
IsUnmadeWith token signature TooLong =
    (parts : Parts) × IsTokenWith token signature parts × (issue_max < length (compact parts))
IsUnmadeWith token signature error = ⊥

-- for private functions: nothing was signed, or it is too long with some good signature
abbrev pub IsTokenUnmade : UnsignedToken → Meaning → IssueError → Type 0
IsTokenUnmade token good Memory = Unit {0}
IsTokenUnmade token good SignFailed = Unit {0}
IsTokenUnmade token good TooLong =
    (parts : Parts) × IsTokenBy token good parts × (issue_max < length (compact parts))
IsTokenUnmade token good error = ⊥
