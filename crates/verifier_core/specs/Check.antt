-- Not needed to believe the program's promises: what the check of a token
-- answers, and what its steps answer.
use Rattle.std.specs.Prelude.{◌≡◌, ◌≢◌, ◌≤◌, ℕ, Bool, true, false, List, ◌∷◌, [], ◌++◌, take, slice_get, Some, None, Result, Ok, Err, IfOk, IfErr, ◌⊎◌}
use Rattle.std.specs.List.{AllZip}
use Rattle.sd_outside.specs.Limits.{json_depth_max}
use Rattle.claim_tree.specs.Tree.{Text, Tree, Members, depth}
use Rattle.refusals.specs.declared.fault.Fault.{Fault}
use Rattle.refusals.specs.declared.fault.Place.{Place}
use Rattle.compact_form.specs.declared.parts.JwtParts.{JwtParts}
use Rattle.compact_form.specs.declared.parts.Parts.{Parts}
use Rattle.jws_part.specs.declared.header.Header.{Header}
use Rattle.jws_part.specs.Header.{IsHeader, IsHeaderUnreadable, IsHeaderCritical}
use Rattle.jws_part.specs.Part.{IsBody, IsNoObject}
use Rattle.disclosure.specs.Digest.{payload_hash}
use Rattle.disclosure.specs.declared.errors.DisclosureError.{DisclosureError}
use Rattle.disclosure.specs.declared.digests.HashAlg.{HashAlg}
use Rattle.digest_sites.specs.Given.{Given}
use Rattle.json_form.specs.declared.token.Token.{Token}
use Rattle.json_form.specs.Token.{IsToken, TextFails}
use Rattle.compact_form.specs.Trim.{trimmed, is_json}
use Rattle.marked_tree.specs.Marked.{Marked}
use Rattle.rebuild_core.specs.LookUps.{look_ups, counted, RoseWithin}
use Rattle.rebuild_core.specs.Payload.{without_alg}
use Rattle.rebuild_core.specs.declared.errors.ProcessError.{ProcessError}
use Rattle.refusals.specs.declared.condition.Condition.{Condition}
use Rattle.refusals.specs.Condition.{number_of}
use Rattle.refusals.specs.Faults.{fault_number, unplaced, placed}
use Rattle.refusals.specs.Lowest.{IsLowest}
use Rattle.refusals.specs.Passing.{Passes}
use Rattle.verifier_core.specs.Content.{Content}
use Rattle.verifier_core.specs.Verdict.{Rules, Demands, demands_of, TokenFails, FailsFor, HasContent, HasHash, IsChecked, IsBindingMissing, ClaimFails, HolderFails, IsAlgRefusedBy, IsTypeRefused, IsUnknownBy, IsBadBy, IsNoDisclosure, Gives}
use Rattle.verifier_core.specs.declared.token_checking.VerifyError.{VerifyError}
use Rattle.verifier_core.specs.declared.policy.Policy.{Policy}

-- the fault that is answered, where memory did not end
abbrev pub OnFault : VerifyError → (Fault → Type 0) → Type 0
OnFault VerifyError.Memory P = Unit {0}
OnFault (VerifyError.Fault fault) P = P fault

-- the fault is of one of the conditions 1 to 13, which are judged before a token is opened
abbrev pub IsUnopened : Fault → Type 0
IsUnopened fault = fault_number fault ≤ 13

-- a text that is no JSON serialization fails one of the conditions 1 to 3
pub record FailsAsCompact (text : List ℕ) : Type 0 where
  pub plain : is_json (trimmed text) ≡ false
  pub fault : Fault
  pub fails : TextFails text fault

-- the token passes the conditions 5 to 13 under the rules, and this is read of it
pub record IsContent (token : Token) (rules : Rules) (content : Content) : Type 0 where
  pub passes : Passes 14 (TokenFails token rules)
  pub has : HasContent token (without_alg content.body) content.given
  pub hash : HasHash token content.hash

-- what is so for each token of which this is read
abbrev pub OfToken : Content → (Token → Rules → Type 0) → Type 0
OfToken content IsSo =
    (token : Token) (rules : Rules) → IsContent token rules content → IsSo token rules

-- the look-ups of a token that is checked
abbrev pub IsCounted : Token → ℕ → ℕ → Type 0
IsCounted token old new =
    (payload : Tree) × (given : List Given) × HasContent token payload given
    × (new ≡ counted old (look_ups payload given))

-- the same of a text: those of the token that it is read as
abbrev pub IsReadCounted : List ℕ → ℕ → ℕ → Type 0
IsReadCounted content old new = (token : Token) × IsToken content token × IsCounted token old new

-- the look-ups of a token that is not: no more than of one that is
abbrev pub IsCountedWithin : Token → ℕ → ℕ → Type 0
IsCountedWithin token old new =
    (new ≡ old)
    ⊎ ((payload : Tree) × (given : List Given) × HasContent token payload given
    × RoseWithin (look_ups payload given) old new)

-- the same of a text: none, or no more than of the token that it is read as
abbrev pub IsReadWithin : List ℕ → ℕ → ℕ → Type 0
IsReadWithin content old new =
    (new ≡ old) ⊎ ((token : Token) × IsToken content token × IsCountedWithin token old new)

-- where one of the conditions 1 to 13 fails, nothing is looked up, whatever is answered
abbrev pub IsUncounted : (Condition → Place → Type 0) → ℕ → ℕ → Type 0
IsUncounted FailsSo old new =
    (c : Condition) (place : Place) → FailsSo c place → number_of c ≤ 13 → new ≡ old

-- what an answer says where a token is opened, beside what is opened
pub record IsOpening {A : Type 0} (token : Token) (rules : Rules) (result : Result A VerifyError)
    (old new : ℕ) : Type 0 where
  pub refused : IfErr result (λ e. OnFault e (IsLowest (TokenFails token rules)))
  -- the look-ups
  pub counted : IfOk result (λ _. IsCounted token old new)
  pub within : IsCountedWithin token old new

-- what a verdict on a text says, beside what is accepted and what refused
pub record IsVerdictFor {A : Type 0} (text : List ℕ) (demands : Demands) (now : ℕ)
    (result : Result A VerifyError) (old new : ℕ) : Type 0 where
  -- a compact text is judged by the conditions 1 to 3 without memory
  pub no_memory : FailsAsCompact text → result ≢ Err VerifyError.Memory
  -- the look-ups
  pub counted : IfOk result (λ _. IsReadCounted text old new)
  pub within : IsReadWithin text old new
  pub uncounted : IsUncounted (FailsFor text demands now) old new

abbrev pub IsVerdict : {A : Type 0} → List ℕ → Policy → ℕ → Result A VerifyError → ℕ → ℕ → Type 0
IsVerdict text policy now result old new = IsVerdictFor text (demands_of policy) now result old new

-- ---- for private functions

-- what fails each condition on what the disclosures show: on the claims, and on
-- the key binding token
abbrev pub ShownFails : Parts → Tree → HashAlg → Demands → ℕ → Condition → Place → Type 0
ShownFails parts payload hash demands now c place =
    ClaimFails payload demands now c place ⊎ HolderFails parts payload hash demands now c place

-- the text is this token, which passes the conditions 4 to 13, and this is read of it
pub record IsRead (text : List ℕ) (demands : Demands) (token : Token) (content : Content)
    : Type 0 where
  pub is_token : IsToken text token
  pub sent : IsBindingMissing demands token.parts → ⊥
  pub is_content : IsContent token demands.rules content

-- the text is this token, which passes the conditions 4 to 21, with this
-- processed payload and this hash
pub record IsOpened (text : List ℕ) (demands : Demands) (token : Token) (marked : Marked)
    (hash : HashAlg) : Type 0 where
  pub is_token : IsToken text token
  pub sent : IsBindingMissing demands token.parts → ⊥
  pub checked : IsChecked token demands.rules marked
  pub hash_is : HasHash token hash

-- the answer of a test
abbrev pub TestTells : Bool → Type 0 → Type 0
TestTells true P = P
TestTells false P = P → ⊥

-- the header, its algorithm, its type, its key and the signature are good
pub record IsSigned (signed : JwtParts) (outer : Members) (rules : Rules) : Type 0 where
  pub header : Header
  pub is_header : IsHeader signed.protected outer header
  pub alg : IsAlgRefusedBy rules.issuers header.alg → ⊥
  pub typ : IsTypeRefused rules.typ header.typ → ⊥
  pub known : IsUnknownBy rules.issuers header signed → ⊥
  pub good : IsBadBy rules.issuers header signed → ⊥

-- the lowest of the conditions 5 to 10 that fails
pub data IsSignedFault (signed : JwtParts) (outer : Members) (rules : Rules) (fault : Fault)
    : Type 0 where
  bad_header : IsHeaderUnreadable signed.protected outer
      → fault ≡ unplaced Condition.HeaderUnreadable → IsSignedFault signed outer rules fault
  critical : IsHeaderCritical signed.protected outer → fault ≡ unplaced Condition.HeaderCritical
      → IsSignedFault signed outer rules fault
  bad_alg : (header : Header) → IsHeader signed.protected outer header
      → IsAlgRefusedBy rules.issuers header.alg → fault ≡ unplaced Condition.AlgRefused
      → IsSignedFault signed outer rules fault
  bad_type : (header : Header) → IsHeader signed.protected outer header
      → (IsAlgRefusedBy rules.issuers header.alg → ⊥) → IsTypeRefused rules.typ header.typ
      → fault ≡ unplaced Condition.TypeRefused → IsSignedFault signed outer rules fault
  no_key : (header : Header) → IsHeader signed.protected outer header
      → (IsAlgRefusedBy rules.issuers header.alg → ⊥) → (IsTypeRefused rules.typ header.typ → ⊥)
      → IsUnknownBy rules.issuers header signed → fault ≡ unplaced Condition.IssuerKeyUnknown
      → IsSignedFault signed outer rules fault
  not_signed : (header : Header) → IsHeader signed.protected outer header
      → (IsAlgRefusedBy rules.issuers header.alg → ⊥) → (IsTypeRefused rules.typ header.typ → ⊥)
      → (IsUnknownBy rules.issuers header signed → ⊥) → IsBadBy rules.issuers header signed
      → fault ≡ unplaced Condition.BadSignature → IsSignedFault signed outer rules fault

-- the lowest of the conditions 11 and 12 that fails
pub data IsPayloadFault (payload : Text) (fault : Fault) : Type 0 where
  no_body : IsNoObject payload → fault ≡ unplaced Condition.PayloadUnreadable
      → IsPayloadFault payload fault
  no_hash : (body : Tree) → IsBody payload body → payload_hash body ≡ None
      → fault ≡ unplaced Condition.HashUnknown → IsPayloadFault payload fault

-- the first disclosure that is not read
pub record IsUnreadAt (hash : HashAlg) (disclosures : List Text) (fault : Fault) : Type 0 where
  pub i : ℕ
  pub disclosure : Text
  pub there : slice_get disclosures i ≡ Some disclosure
  pub before : List Given
  pub read : AllZip (Gives hash) (take i disclosures) before
  pub unread : IsNoDisclosure disclosure
  pub fault_is : fault ≡ placed Condition.DisclosureUnreadable i

-- the answer for a disclosure that is not read
abbrev pub unread_at : ℕ → DisclosureError → VerifyError
unread_at i DisclosureError.Memory = VerifyError.Memory
unread_at i _ = VerifyError.Fault (placed Condition.DisclosureUnreadable i)

-- one more is given
pub record Adds (hash : HashAlg) (disclosure : Text) (old new : List Given) : Type 0 where
  pub one : Given
  pub gives : Gives hash disclosure one
  pub shallow : depth one.value ≤ json_depth_max
  pub more : new ≡ old ++ one ∷ []

-- the fault of a refusal to process
abbrev pub process_fault : ProcessError → VerifyError
process_fault ProcessError.Memory = VerifyError.Memory
process_fault (ProcessError.RepeatedDisclosure i) =
    VerifyError.Fault (placed Condition.RepeatedDisclosure i)
process_fault (ProcessError.ReservedMisused i) =
    VerifyError.Fault (placed Condition.ReservedMisused i)
process_fault (ProcessError.RepeatedDigest i) =
    VerifyError.Fault (placed Condition.RepeatedDigest i)
process_fault (ProcessError.Unreferenced i) =
    VerifyError.Fault (placed Condition.UnreferencedDisclosure i)
process_fault (ProcessError.WrongShape i) = VerifyError.Fault (placed Condition.WrongShape i)
process_fault (ProcessError.ReservedName i) = VerifyError.Fault (placed Condition.ReservedName i)
process_fault (ProcessError.NameClash i) = VerifyError.Fault (placed Condition.NameClash i)
process_fault ProcessError.TooDeep = VerifyError.Fault (unplaced Condition.TooDeep)

-- the answer to what is processed, or not
abbrev pub judged_of : {A : Type 0} → Result A ProcessError → Result A VerifyError
judged_of (Ok shown) = Ok shown
judged_of (Err error) = Err (process_fault error)
