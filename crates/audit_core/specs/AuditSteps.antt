-- For private functions: what the steps of an audit answer.
use Rattle.std.specs.Prelude.{◌≡◌, ◌⊎◌, ℕ, List, ◌++◌, length, codes, Option, Some}
use Rattle.std.specs.List.{AllZip}
use Rattle.b64url_text.specs.Base64url.{Decodes}
use Rattle.claim_tree.specs.Tree.{Text, Tree, leaf, text, get}
use Rattle.claim_tree.specs.Path.{pointer_text}
use Rattle.compact_form.specs.declared.parts.Parts.{Parts}
use Rattle.digest_sites.specs.Given.{Given}
use Rattle.digest_sites.specs.declared.site.SiteKind.{SiteKind}
use Rattle.digest_sites.specs.declared.site.SiteKind.TheVariants.{Member, Element}
use Rattle.disclosure.specs.Digest.{hash_name}
use Rattle.disclosure.specs.declared.digests.HashAlg.{HashAlg}
use Rattle.json_form.specs.declared.token.Token.{Token}
use Rattle.rebuild_core.specs.LookUps.{look_ups, counted, RoseWithin}
use Rattle.rebuild_core.specs.Payload.{without_alg}
use Rattle.rebuild_core.specs.Soundness.{IsSound}
use Rattle.issuer_core.specs.declared.errors.IssueError.{IssueError}
use Rattle.issuer_core.specs.Order.{Order}
use Rattle.issuer_core.specs.OrderRefusals.{AppliesToOrder, IsLowestRefusal, issue_number}
use Rattle.audit_core.specs.declared.errors.AuditError.{AuditError}
use Rattle.audit_core.specs.declared.errors.AuditError.TheVariants.{Memory, Order as OnOrder, Token as OnCondition, Part}
use Rattle.audit_core.specs.Audited.{Standing, IsWrittenAs, IsSaltedText, GivesSalted, IsWrittenFor}

-- the payload names the hash
abbrev pub NamesHash : HashAlg → Tree → Type 0
NamesHash hash body = get body (codes "_sd_alg") ≡ Some (leaf (text (hash_name hash)))

-- the text is that of the compact JSON of no tree
abbrev pub IsUnwritten : Text → Type 0
IsUnwritten part = (t : Tree) → IsWrittenAs part t → ⊥

-- the text is that of 16 bytes
pub record IsSalt (salt : Text) : Type 0 where
  pub bytes : List ℕ
  pub decodes : Decodes salt bytes
  pub long : length bytes ≡ 16

-- the text is no disclosure with a salt of 16 bytes
abbrev pub IsUnsalted : Text → Type 0
IsUnsalted disclosure = (name : Option Text) (value : Tree) → IsSaltedText disclosure name value → ⊥

-- one of the texts is none
abbrev pub HasUnsalted : HashAlg → List Text → Type 0
HasUnsalted hash disclosures =
    (given : List Given) → AllZip (GivesSalted hash) disclosures given → ⊥

-- the text is not that of a payload that names the hash
abbrev pub IsOtherPayload : HashAlg → Text → Type 0
IsOtherPayload hash payload = (body : Tree) → IsWrittenAs payload body → NamesHash hash body → ⊥

-- the payload names the hash, and there are so many disclosures
pub record IsWrittenWith (hash : HashAlg) (hidden : ℕ) (parts : Parts) (body : Tree)
    (given : List Given) : Type 0 where
  pub payload : IsWrittenAs parts.signed.payload body
  pub alg : NamesHash hash body
  pub count : length parts.disclosures ≡ hidden
  pub disclosures : AllZip (GivesSalted hash) parts.disclosures given

-- the look-ups of a token, where it is written as it is to be
abbrev pub IsTokenWithin : Order → Token → ℕ → ℕ → Type 0
IsTokenWithin o token old new =
    (new ≡ old)
    ⊎ ((body : Tree) × (given : List Given) × IsWrittenFor o token.parts body given
    × RoseWithin (look_ups (without_alg body) given) old new)

-- exactly those of what is written
abbrev pub IsTokenCounted : Order → Token → ℕ → ℕ → Type 0
IsTokenCounted o token old new =
    (body : Tree) × (given : List Given) × IsWrittenFor o token.parts body given
    × (new ≡ counted old (look_ups (without_alg body) given))

-- the same, where it meets the conditions 14 to 21
abbrev pub IsTokenSoundCounted : Order → Token → ℕ → ℕ → Type 0
IsTokenSoundCounted o token old new =
    (body : Tree) × (given : List Given) × IsWrittenFor o token.parts body given
    × (IsSound (without_alg body) given → new ≡ counted old (look_ups (without_alg body) given))

-- the part that differs; want of memory says nothing
abbrev pub OnPart : AuditError → (ℕ → Type 0) → Type 0
OnPart Memory Differs = Unit {0}
OnPart (OnOrder k) Differs = ⊥
OnPart (OnCondition fault) Differs = ⊥
OnPart (Part k) Differs = Differs k

-- a refused order; want of memory says nothing
abbrev pub OnOrderRefused : AuditError → Order → Type 0
OnOrderRefused Memory o = Unit {0}
OnOrderRefused (OnOrder k) o =
    (refusal : IssueError) × IsLowestRefusal (AppliesToOrder o) refusal × (k ≡ issue_number refusal)
OnOrderRefused (OnCondition fault) o = ⊥
OnOrderRefused (Part k) o = ⊥

-- ---- places of decoys

-- where a digest stands, as one text
abbrev pub kind_letter : SiteKind → Text
kind_letter Member = codes "m"
kind_letter Element = codes "e"

abbrev pub standing_text : Standing → Text
standing_text x = kind_letter x.kind ++ pointer_text x.at
