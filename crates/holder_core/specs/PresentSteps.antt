-- For private functions: the steps of presenting.
use Rattle.std.specs.Prelude.{◌≡◌, ◌≢◌, ◌<◌, ◌≤◌, ◌-◌, ◌^◌, ◌⊎◌, ℕ, List, [], length, Option, None, Some, Result, Ok, Err, option_map}
use Rattle.claim_tree.specs.Tree.{Text, Tree}
use Rattle.claim_tree.specs.View.{tree_of}
use Rattle.claim_tree.specs.declared.tree.Tree as declared
use Rattle.sd_outside.specs.Lists.{IsLeast, AtNone}
use Rattle.compact_form.specs.Compact.{AreWords, compact, hashed}
use Rattle.sd_outside.specs.Limits.{compact_max}
use Rattle.compact_form.specs.declared.parts.JwtParts.{JwtParts}
use Rattle.compact_form.specs.declared.parts.Parts.{Parts}
use Rattle.disclosure.specs.declared.digests.HashAlg.{HashAlg}
use Rattle.hmac_sign.specs.Signatures.{Meaning}
use Rattle.json_form.specs.Token as file
use Rattle.json_form.specs.Token.{IsToken}
use Rattle.json_form.specs.declared.token.Token.{Token}
use Rattle.key_binding.specs.Judged.{holder_kid}
use Rattle.marked_tree.specs.Marked.{Marked, strip}
use Rattle.marked_tree.specs.Numbers.{has}
use Rattle.marked_tree.specs.Paths.{Path, chosen}
use Rattle.selection_core.specs.Consent.{RuleAnswers, AllAllowed, IsRefusedAt}
use Rattle.selection_core.specs.ChoiceRefusals.{IsMissing}
use Rattle.key_binding.specs.declared.caller.SignatureAnswer.{SignatureAnswer}
use Rattle.verifier_core.specs.Asking.{IsEarlyOrSigned, IsQuestion}
use Rattle.verifier_core.specs.Check.{IsSigned}
use Rattle.verifier_core.specs.Verdict.{Rules}
use Rattle.holder_core.specs.Asked.{Asked, BindingAsked}
use Rattle.holder_core.specs.declared.ask.CallerAsk.{CallerAsk}
use Rattle.holder_core.specs.declared.errors.PresentError.{PresentError}
use Rattle.holder_core.specs.declared.errors.PresentError.TheVariants.{Memory, Token as OnCondition, HasBinding, NoSuchPlace, ConsentRefused, BindingKeyDiffers, SignFailed, TooLong}
use Rattle.holder_core.specs.declared.presenting.Unbound.{Unbound}
use Rattle.holder_core.specs.declared.signing.Presentation.{Presentation}
use Rattle.holder_core.specs.declared.signing.Presentation.TheVariants.{AsksIssuer}
use Rattle.holder_core.specs.declared.signing.Unsigned.{Unsigned}
use Rattle.holder_core.specs.declared.signing.Unsigned.TheVariants.{Alone, ToSign}
use Rattle.holder_core.specs.declared.signing.UnsignedPresentation.{UnsignedPresentation}
use Rattle.holder_core.specs.Present.{shown_for, IsAgreed, NamesKey, PicksParts, IsWantedNotThere, IsConsentRefused, IsBindingKeyOther, IsAnswer, IsNoAnswer}
use Rattle.holder_core.specs.PresentCalls.{IsUnchecked}
use Rattle.holder_core.specs.ToSign.{none_good, IsIssuerAsked, IsToSign, IsSentBy, IsUnsignedFor}

-- why a text is not read as a token without key binding token; want of memory says nothing
abbrev pub IsUnread : Text → PresentError → Type 0
IsUnread content Memory = Unit {0}
IsUnread content (OnCondition fault) = file.IsTextRefused content fault
IsUnread content HasBinding = (token : Token) × IsToken content token × (token.parts.binding ≢ None)
IsUnread content _ = ⊥

-- a token that was read and has no key binding token
pub record IsUnboundToken (token : Token) : Type 0 where
  pub few : length token.parts.disclosures < 2 ^ 32 - 1
  pub words : AreWords token.parts
  pub unbound : token.parts.binding ≡ None

-- these are the marks that lead to the wanted places, which are there, and the rule may allow them
pub record IsChosen {F : Type 0} (answers : RuleAnswers F) (rule : F) (m : Marked)
    (want : List Path) (marks : List ℕ) : Type 0 where
  pub same : (i : ℕ) → has marks i ≡ chosen m want i
  pub there : AtNone (IsMissing (strip m) want)
  pub allowed : AllAllowed answers rule m (chosen m want)

abbrev pub IsUnchosen : {F : Type 0} → RuleAnswers F → F → Marked → List Path → PresentError
    → Type 0
IsUnchosen answers rule m want Memory = Unit {0}
IsUnchosen answers rule m want (NoSuchPlace k) = IsLeast (IsMissing (strip m) want) k
IsUnchosen answers rule m want (ConsentRefused i) =
    AtNone (IsMissing (strip m) want) × IsRefusedAt answers rule m (chosen m want) i
IsUnchosen answers rule m want _ = ⊥

-- a key binding token is asked for, and the payload does not name its key
abbrev pub IsOtherKey : Option BindingAsked → Tree → PresentError → Type 0
IsOtherKey binding payload Memory = Unit {0}
IsOtherKey binding payload BindingKeyDiffers =
    (ask : BindingAsked) × (kid : Text) × (binding ≡ Some ask) × (ask.kid ≡ Some kid)
    × (holder_kid payload ≢ Some kid)
IsOtherKey binding payload _ = ⊥

-- this is the payload, where a key binding token is asked for
abbrev pub IsShown : Option BindingAsked → Tree → Option declared.Tree → Type 0
IsShown None payload shown = Unit {0}
IsShown (Some ask) payload shown = option_map tree_of shown ≡ Some payload

-- the parts are those of the token with the disclosures that are asked for, and
-- nothing is refused before they are signed
pub record IsReady {F : Type 0} (answers : RuleAnswers F) (rule : F) (token : Token) (asked : Asked)
    (marked : Marked) (unbound : Unbound) : Type 0 where
  pub agreed : IsAgreed answers rule token asked marked
  pub key : NamesKey asked.binding (shown_for marked asked.want)
  pub presents : PicksParts token.parts (chosen marked asked.want) None unbound.parts
  pub shown : IsShown asked.binding (shown_for marked asked.want) unbound.payload

-- what is refused before
abbrev pub IsUnready : {F : Type 0} → RuleAnswers F → F → Token → Asked → PresentError → Type 0
IsUnready answers rule token asked Memory = Unit {0}
IsUnready answers rule token asked (NoSuchPlace k) = IsWantedNotThere token asked k
IsUnready answers rule token asked (ConsentRefused i) = IsConsentRefused answers rule token asked i
IsUnready answers rule token asked BindingKeyDiffers = IsBindingKeyOther answers rule token asked
IsUnready answers rule token asked _ = ⊥

-- the same for some processed payload
abbrev pub IsMadeReady : {F : Type 0} → RuleAnswers F → F → Token → Asked → Unbound → Type 0
IsMadeReady answers rule token asked unbound =
    (marked : Marked) × IsReady answers rule token asked marked unbound

-- the token is refused, or what is asked of it
abbrev pub IsUncheckedOrUnready : {F : Type 0} → RuleAnswers F → F → Token → Asked → PresentError
    → Type 0
IsUncheckedOrUnready answers rule token asked e =
    IsUnchecked token asked.rules e ⊎ IsUnready answers rule token asked e

-- ---- the signature

-- the key binding token that is asked for is made over the parts, but for its signature
pub record IsToBeBound (binding : Option BindingAsked) (alg : Text) (hash : HashAlg) (now : ℕ)
    (unbound : Unbound) (unsigned : UnsignedPresentation) : Type 0 where
  pub ask : BindingAsked
  pub asked_for : binding ≡ Some ask
  pub parts : unsigned.parts ≡ unbound.parts
  pub to_sign : IsUnsignedFor ask alg hash (hashed unsigned.parts) now unsigned.binding
  pub payload : unbound.payload ≡ Some unsigned.payload

-- no key binding token is asked for, and these are the parts; or one is made but for its signature
abbrev pub IsUnsignedOf : Option BindingAsked → Text → HashAlg → ℕ → Unbound → Unsigned → Type 0
IsUnsignedOf binding alg hash now unbound (Alone parts) = (binding ≡ None) × (parts ≡ unbound.parts)
IsUnsignedOf binding alg hash now unbound (ToSign unsigned) =
    IsToBeBound binding alg hash now unbound unsigned

-- no key binding token is asked for, and the parts are too long
abbrev pub IsLongAlone : Option BindingAsked → Parts → PresentError → Type 0
IsLongAlone binding parts Memory = Unit {0}
IsLongAlone binding parts TooLong = (binding ≡ None) × (compact_max < length (compact parts))
IsLongAlone binding parts _ = ⊥

-- the answer as it is, where no key binding token is asked for, or all of it but for the signature
abbrev pub IsUnsigned : {F : Type 0} → RuleAnswers F → F → Token → Asked → Text → ℕ → Unsigned
    → Type 0
IsUnsigned answers rule token asked alg now (Alone parts) =
    IsAnswer answers rule token asked alg none_good now parts
IsUnsigned answers rule token asked alg now (ToSign unsigned) =
    IsToSign answers rule token asked alg now unsigned

-- what is so of the parts that need no signature, or of what is to be signed
abbrev pub OnUnsigned : Unsigned → (Parts → Type 0) → (UnsignedPresentation → Type 0) → Type 0
OnUnsigned (Alone parts) P Q = P parts
OnUnsigned (ToSign unsigned) P Q = Q unsigned

-- the token is presented as it is asked, or refused
abbrev pub IsAnswered : {F : Type 0} → RuleAnswers F → F → Token → Asked → Text → Meaning → ℕ
    → Result Parts PresentError → Type 0
IsAnswered answers rule token asked alg good now (Ok answer) =
    IsAnswer answers rule token asked alg good now answer
IsAnswered answers rule token asked alg good now (Err error) =
    IsNoAnswer answers rule token asked alg good now error

-- it is not too long
abbrev pub IsShort : Parts → Type 0
IsShort parts = length (compact parts) ≤ compact_max

-- the parts with this key binding token
abbrev pub IsWithBinding : Parts → JwtParts → Parts → Type 0
IsWithBinding unbound token answer =
    (answer.signed ≡ unbound.signed) × (answer.disclosures ≡ unbound.disclosures)
    × (answer.binding ≡ Some token)

-- it was not signed, or is too long
abbrev pub IsUnsent : UnsignedPresentation → Meaning → PresentError → Type 0
IsUnsent unsigned good Memory = Unit {0}
IsUnsent unsigned good SignFailed = Unit {0}
IsUnsent unsigned good TooLong =
    (answer : Parts) × IsSentBy unsigned good answer × (compact_max < length (compact answer))
IsUnsent unsigned good _ = ⊥

-- ---- the issuer's signature

-- it is good, or the condition is one of 5 to 10
abbrev pub IsSignedOrEarly : Token → Rules → PresentError → Type 0
IsSignedOrEarly token rules Memory = Unit {0}
IsSignedOrEarly token rules (OnCondition fault) = IsEarlyOrSigned token rules fault
IsSignedOrEarly token rules _ = IsSigned token.parts.signed token.outer rules

-- the caller is asked for the signature of this token
abbrev pub AsksOf : Token → CallerAsk → Option SignatureAnswer → Presentation → Type 0
AsksOf token ask answer (AsksIssuer question) =
    (answer ≡ None) × IsIssuerAsked ask token × IsQuestion token.parts.signed token.outer question
AsksOf token ask answer _ = ⊥

-- ---- a token without disclosures

-- each wanted place is in the payload, which names the key of the ask, and the
-- parts are those of the token with no disclosure
pub record IsWholeReady (token : Token) (asked : Asked) (payload : Tree) (unbound : Unbound)
    : Type 0 where
  pub there : AtNone (IsMissing payload asked.want)
  pub key : NamesKey asked.binding payload
  pub presents : PicksParts token.parts (has []) None unbound.parts
  pub shown : IsShown asked.binding payload unbound.payload

-- what is refused before
abbrev pub IsWholeUnready : Asked → Tree → PresentError → Type 0
IsWholeUnready asked payload Memory = Unit {0}
IsWholeUnready asked payload (NoSuchPlace k) = IsLeast (IsMissing payload asked.want) k
IsWholeUnready asked payload BindingKeyDiffers =
    AtNone (IsMissing payload asked.want) × IsOtherKey asked.binding payload BindingKeyDiffers
IsWholeUnready asked payload _ = ⊥
