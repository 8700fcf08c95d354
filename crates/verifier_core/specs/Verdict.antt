-- The verdict on a token: what fails each condition and at which place, and the
-- lowest that fails (RFC 9901 section 7.3).
use Rattle.std.specs.Prelude.{◌≡◌, ◌≢◌, ℕ, ◌⊎◌, List, Option, Some, None, codes, option_and_then, option_map}
use Rattle.std.specs.List.{AllZip}
use Rattle.claim_tree.specs.Tree.{Text, Tree, leaf, text, get}
use Rattle.sd_outside.specs.Lists.{StandsAt, IsSuchAt, In}
use Rattle.refusals.specs.declared.fault.Place.{Place}
use Rattle.refusals.specs.Faults.{fault_at}
use Rattle.compact_form.specs.declared.parts.JwtParts.{JwtParts}
use Rattle.compact_form.specs.declared.parts.Parts.{Parts}
use Rattle.compact_form.specs.Compact.{hashed}
use Rattle.json_form.specs.declared.token.Token.{Token}
use Rattle.json_form.specs.Token as file
use Rattle.json_form.specs.Token.{IsToken}
use Rattle.jws_part.specs.declared.header.Header.{Header}
use Rattle.jws_part.specs.Header.{IsHeader, IsHeaderUnreadable, IsHeaderCritical}
use Rattle.jws_part.specs.Part.{IsBody, IsNoObject}
use Rattle.jws_part.specs.Times.{IsTimeUnreadable, IsExpired, IsNotYet}
use Rattle.hmac_sign.specs.declared.key_set.NamedKey.{NamedKey}
use Rattle.hmac_sign.specs.Algs.{alg_of_text}
use Rattle.hmac_sign.specs.Keys.{picked_key}
use Rattle.hmac_sign.specs.Hmac.{AlgKey, IsGoodText}
use Rattle.disclosure.specs.Digest.{digest_of, payload_hash}
use Rattle.disclosure.specs.Disclosure.{IsDisclosure}
use Rattle.disclosure.specs.declared.digests.HashAlg.{HashAlg}
use Rattle.digest_sites.specs.Given.{Given}
use Rattle.marked_tree.specs.Marked.{Marked, strip}
use Rattle.rebuild_core.specs.Payload.{without_alg}
use Rattle.rebuild_core.specs.Opening.{processed}
use Rattle.rebuild_core.specs.Conditions as opening
use Rattle.refusals.specs.declared.condition.Condition.{Condition}
use Rattle.refusals.specs.Lowest.{Unplaced, Numbered, NoneFails}
use Rattle.key_binding.specs.Caller.{Caller, IsAlgUntaken, IsUnknownTo, IsBadTo}
use Rattle.key_binding.specs.Judged.{judged, BindingRules, binding_rules}
use Rattle.key_binding.specs.BindingConditions.{BindingFails}
use Rattle.verifier_core.specs.declared.policy.Policy.{Policy}

-- ---- what a token says

-- who may sign a token: these keys, with these algorithms, or whom a caller
-- says that checks signatures itself
pub data Issuers : Type 0 where
  of_keys : List NamedKey → List Text → Issuers
  of_caller : Caller → Issuers

-- what is asked of a token itself: who may sign it, and its type
pub record Rules : Type 0 where
  pub issuers : Issuers
  pub typ : Option Text

-- the headers of the token are read, and say this
abbrev pub HasHeader : Token → Header → Type 0
HasHeader token header = IsHeader token.parts.signed.protected token.outer header

-- the algorithm is not known, or is not one of those
abbrev pub IsAlgRefused : List Text → Text → Type 0
IsAlgRefused algs alg = (alg_of_text alg ≡ None) ⊎ ((i : ℕ) → StandsAt algs i alg → ⊥)

-- a type is asked for, and the header has none or another
abbrev pub IsTypeRefused : Option Text → Option Text → Type 0
IsTypeRefused asked typ = (name : Text) × (asked ≡ Some name) × (typ ≢ Some name)

-- the key that the header asks for: the first that is long enough for its
-- algorithm, and has its name where there is one
abbrev pub key_for : List NamedKey → Header → Option AlgKey
key_for keys header = option_and_then (picked_key keys header.kid) (alg_of_text header.alg)

-- the signature is no base64url text, or is not good under the key
abbrev pub IsBadSignature : AlgKey → JwtParts → Type 0
IsBadSignature key signed = IsGoodText key signed.protected signed.payload signed.signature → ⊥

-- signatures of the algorithm are not taken
abbrev pub IsAlgRefusedBy : Issuers → Text → Type 0
IsAlgRefusedBy (of_keys keys algs) alg = IsAlgRefused algs alg
IsAlgRefusedBy (of_caller caller) alg = IsAlgUntaken caller alg

-- there is no key for what the header says
abbrev pub IsUnknownBy : Issuers → Header → JwtParts → Type 0
IsUnknownBy (of_keys keys algs) header signed = key_for keys header ≡ None
IsUnknownBy (of_caller caller) header signed = IsUnknownTo caller signed.signature

-- there is one, and the signature is not good under it
abbrev pub IsBadBy : Issuers → Header → JwtParts → Type 0
IsBadBy (of_keys keys algs) header signed =
    (key : AlgKey) × (key_for keys header ≡ Some key) × IsBadSignature key signed
IsBadBy (of_caller caller) header signed = IsBadTo caller signed.signature

abbrev pub HasPayload : Token → Tree → Type 0
HasPayload token payload = IsBody token.parts.signed.payload payload

-- the algorithm of the digests
abbrev pub HasHash : Token → HashAlg → Type 0
HasHash token hash = (body : Tree) × HasPayload token body × (payload_hash body ≡ Some hash)

-- the text is no disclosure
abbrev pub IsNoDisclosure : Text → Type 0
IsNoDisclosure disclosure =
    (salt : Tree) (name : Option Text) (value : Tree) → IsDisclosure disclosure salt name value → ⊥

-- the disclosure has this digest, and gives this name and value
abbrev pub Gives : HashAlg → Text → Given → Type 0
Gives hash disclosure given =
    (given.digest ≡ digest_of hash disclosure) × (salt : Tree)
    × IsDisclosure disclosure salt given.name given.value

-- the payload of the token without its own `_sd_alg`, and what its disclosures give
pub record HasContent (token : Token) (payload : Tree) (given : List Given) : Type 0 where
  pub body : Tree
  pub is_body : HasPayload token body
  pub payload_is : payload ≡ without_alg body
  pub hash : HashAlg
  pub hash_is : payload_hash body ≡ Some hash
  pub disclosures : AllZip (Gives hash) token.parts.disclosures given

-- the condition on the content fails at this place
abbrev pub OfContent : (Tree → List Given → ℕ → Type 0) → Token → ℕ → Type 0
OfContent FailsAt token i =
    (payload : Tree) × (given : List Given) × HasContent token payload given
    × FailsAt payload given i

-- the token processes to this payload
abbrev pub Opens : Token → Marked → Type 0
Opens token marked =
    (payload : Tree) × (given : List Given) × HasContent token payload given
    × (marked ≡ processed payload given)

-- ---- the conditions

-- what fails each condition on a token, where no lower one fails
abbrev pub TokenFails : Token → Rules → Condition → Place → Type 0
TokenFails token rules Condition.HeaderUnreadable place =
    Unplaced (IsHeaderUnreadable token.parts.signed.protected token.outer) place
TokenFails token rules Condition.HeaderCritical place =
    Unplaced (IsHeaderCritical token.parts.signed.protected token.outer) place
TokenFails token rules Condition.AlgRefused place =
    Unplaced ((header : Header) × HasHeader token header × IsAlgRefusedBy rules.issuers header.alg)
    place
TokenFails token rules Condition.TypeRefused place =
    Unplaced ((header : Header) × HasHeader token header × IsTypeRefused rules.typ header.typ) place
TokenFails token rules Condition.IssuerKeyUnknown place =
    Unplaced
    ((header : Header) × HasHeader token header
    × IsUnknownBy rules.issuers header token.parts.signed) place
TokenFails token rules Condition.BadSignature place =
    Unplaced
    ((header : Header) × HasHeader token header × IsBadBy rules.issuers header token.parts.signed)
    place
TokenFails token rules Condition.PayloadUnreadable place =
    Unplaced (IsNoObject token.parts.signed.payload) place
TokenFails token rules Condition.HashUnknown place =
    Unplaced ((body : Tree) × HasPayload token body × (payload_hash body ≡ None)) place
TokenFails token rules Condition.DisclosureUnreadable place =
    Numbered (IsSuchAt IsNoDisclosure token.parts.disclosures) place
TokenFails token rules Condition.RepeatedDisclosure place =
    Numbered (OfContent (λ payload given i. opening.RepeatedDisclosure given i) token) place
TokenFails token rules Condition.ReservedMisused place =
    Numbered (OfContent opening.Misused token) place
TokenFails token rules Condition.RepeatedDigest place =
    Numbered (OfContent opening.RepeatedDigest token) place
TokenFails token rules Condition.UnreferencedDisclosure place =
    Numbered (OfContent opening.Unreferenced token) place
TokenFails token rules Condition.WrongShape place =
    Numbered (OfContent opening.WrongShape token) place
TokenFails token rules Condition.ReservedName place =
    Numbered (OfContent opening.ReservedName token) place
TokenFails token rules Condition.NameClash place =
    Numbered (OfContent opening.NameClash token) place
TokenFails token rules Condition.TooDeep place =
    Unplaced
    ((payload : Tree) × (given : List Given) × HasContent token payload given
    × opening.IsTooDeep payload given) place
TokenFails token rules _ place = ⊥

-- the claim is one of these texts
abbrev pub NamesIssuer : List Text → Option Tree → Type 0
NamesIssuer issuers claim = (iss : Text) × In iss issuers × (claim ≡ Some (leaf (text iss)))

-- an issuer is asked for, and the claim is none of those
abbrev pub IsIssuerRefused : Option (List Text) → Option Tree → Type 0
IsIssuerRefused asked claim =
    (issuers : List Text) × (asked ≡ Some issuers) × (NamesIssuer issuers claim → ⊥)

-- what is asked of a token file: of the token itself, of the claims of its processed payload, and
-- of a key binding token, where one is asked for
pub record Demands : Type 0 where
  pub rules : Rules
  pub iss : Option (List Text)
  pub require : List Text
  pub skew : ℕ
  pub binding : Option BindingRules

-- what fails each condition on the processed payload, at a moment in seconds since 1970
abbrev pub ClaimFails : Tree → Demands → ℕ → Condition → Place → Type 0
ClaimFails payload demands now Condition.IssuerRefused place =
    Unplaced (IsIssuerRefused demands.iss (get payload (codes "iss"))) place
ClaimFails payload demands now Condition.ClaimMissing place =
    Numbered (IsSuchAt (λ name. get payload name ≡ None) demands.require) place
ClaimFails payload demands now Condition.TimeUnreadable place =
    Unplaced (IsTimeUnreadable payload) place
ClaimFails payload demands now Condition.Expired place =
    Unplaced (IsExpired payload demands.skew now) place
ClaimFails payload demands now Condition.NotYet place =
    Unplaced (IsNotYet payload demands.skew now) place
ClaimFails payload demands now _ place = ⊥

-- a key binding token is asked for, and there is none
abbrev pub IsBindingMissing : Demands → Parts → Type 0
IsBindingMissing demands parts =
    (binding : BindingRules) × (demands.binding ≡ Some binding) × (parts.binding ≡ None)

abbrev pub MissingFails : Demands → Parts → Condition → Place → Type 0
MissingFails demands parts c place =
    (c ≡ Condition.BindingMissing) × Unplaced (IsBindingMissing demands parts) place

-- what fails each condition on the key binding token that is asked for, over the processed payload
-- and the hash of the token that it is sent with
pub record HolderFails (parts : Parts) (payload : Tree) (hash : HashAlg) (demands : Demands)
    (now : ℕ) (c : Condition) (place : Place) : Type 0 where
  pub binding : BindingRules
  pub asked : demands.binding ≡ Some binding
  pub token : JwtParts
  pub sent : parts.binding ≡ Some token
  pub fails : BindingFails (judged token payload binding demands.skew hash (hashed parts) now) c
      place

abbrev pub FileFails : List ℕ → Condition → Place → Type 0
FileFails content c place = file.TextFails content (fault_at c place)

-- what fails each condition on a token file of which this is asked
pub data FailsFor (content : List ℕ) (demands : Demands) (now : ℕ) (c : Condition) (place : Place)
    : Type 0 where
  of_file : FileFails content c place → FailsFor content demands now c place
  of_missing : (token : Token) → IsToken content token → MissingFails demands token.parts c place
      → FailsFor content demands now c place
  of_token : (token : Token) → IsToken content token → TokenFails token demands.rules c place
      → FailsFor content demands now c place
  of_claims : (token : Token) (marked : Marked) → IsToken content token → Opens token marked
      → ClaimFails (strip marked) demands now c place → FailsFor content demands now c place
  of_holder : (token : Token) (marked : Marked) (hash : HashAlg) → IsToken content token
      → Opens token marked → HasHash token hash
      → HolderFails token.parts (strip marked) hash demands now c place
      → FailsFor content demands now c place

-- the rules of these keys, algorithms and type
abbrev pub asked : List NamedKey → List Text → Option Text → Rules
asked keys algs typ = record { issuers = of_keys keys algs; typ = typ }

abbrev pub rules_of : Policy → Rules
rules_of policy = asked policy.keys policy.algs policy.typ

-- what a policy asks
abbrev pub demands_of : Policy → Demands
demands_of policy =
    record {
      rules = rules_of policy;
      iss = policy.iss;
      require = policy.require;
      skew = policy.skew;
      binding = option_map binding_rules policy.binding;
    }

-- what fails each condition on a token file under a policy
abbrev pub Fails : List ℕ → Policy → ℕ → Condition → Place → Type 0
Fails content policy now = FailsFor content (demands_of policy) now

-- ---- the verdict

-- no condition on a token fails, and it processes to this payload
pub record IsChecked (token : Token) (rules : Rules) (marked : Marked) : Type 0 where
  pub passes : NoneFails (TokenFails token rules)
  pub opens : Opens token marked

-- no condition fails, and the token processes to this payload
pub record IsAcceptedFor (content : List ℕ) (demands : Demands) (now : ℕ) (marked : Marked)
    : Type 0 where
  pub passes : NoneFails (FailsFor content demands now)
  pub token : Token
  pub is_token : IsToken content token
  pub opens : Opens token marked

abbrev pub IsAccepted : List ℕ → Policy → ℕ → Marked → Type 0
IsAccepted content policy now marked = IsAcceptedFor content (demands_of policy) now marked
