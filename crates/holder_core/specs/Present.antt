-- What a holder presents of a token as it is asked, and why it presents nothing
-- (RFC 9901 section 7.2).
use Rattle.std.specs.Prelude.{◌≡◌, ◌≢◌, ◌<◌, ℕ, suc, Bool, List, [], ◌∷◌, length, Option, None, Some, if◌then◌else◌}
use Rattle.claim_tree.specs.Tree.{Text, Tree}
use Rattle.sd_outside.specs.Lists.{IsLeast, AtNone}
use Rattle.compact_form.specs.Compact.{compact, hashed}
use Rattle.refusals.specs.Lowest.{IsLowest}
use Rattle.json_form.specs.Token as file
use Rattle.refusals.specs.declared.fault.Fault.{Fault}
use Rattle.sd_outside.specs.Limits.{compact_max}
use Rattle.compact_form.specs.declared.parts.JwtParts.{JwtParts}
use Rattle.compact_form.specs.declared.parts.Parts.{Parts}
use Rattle.disclosure.specs.declared.digests.HashAlg.{HashAlg}
use Rattle.hmac_sign.specs.Signatures.{Meaning}
use Rattle.json_form.specs.Token.{IsToken}
use Rattle.json_form.specs.declared.token.Token.{Token}
use Rattle.key_binding.specs.Binding.{IsBinding, IsReadBack}
use Rattle.key_binding.specs.Judged.{holder_kid}
use Rattle.marked_tree.specs.Paths.{Path, chosen}
use Rattle.marked_tree.specs.Marked.{Marked, strip, prune}
use Rattle.selection_core.specs.Consent.{RuleAnswers, AllAllowed, IsRefusedAt}
use Rattle.selection_core.specs.ChoiceRefusals.{IsMissing}
use Rattle.verifier_core.specs.Verdict.{TokenFails, IsChecked, HasHash}
use Rattle.holder_core.specs.Asked.{Asked, BindingAsked}
use Rattle.holder_core.specs.declared.errors.PresentError.{PresentError}
use Rattle.holder_core.specs.declared.errors.PresentError.TheVariants.{Memory, Token as OnCondition, HasBinding, NoSuchPlace, ConsentRefused, BindingKeyDiffers, SignFailed, TooLong}

-- ---- what is presented

-- the elements whose places are in the set, in their order
abbrev pub picked : {X : Type 0} → (ℕ → Bool) → List X → List X
picked s [] = []
picked s (x ∷ xs) = if s 0 then x ∷ picked (λ k. s (suc k)) xs else picked (λ k. s (suc k)) xs

-- the token of the issuer, its disclosures whose numbers are in the set, in
-- their order, and this key binding token or none
pub record PicksParts (parts : Parts) (s : ℕ → Bool) (binding : Option JwtParts) (answer : Parts)
    : Type 0 where
  pub signed : answer.signed ≡ parts.signed
  pub disclosures : answer.disclosures ≡ picked s parts.disclosures
  pub binding_is : answer.binding ≡ binding

-- what is shown of a processed payload, or of marked claims: all but what is
-- hidden and leads to none of the wanted places
abbrev pub shown_for : Marked → List Path → Tree
shown_for marked want = strip (prune marked (chosen marked want))

-- ---- what is asked of the token

-- it has no key binding token, no condition from 5 to 21 fails, and it processes to this payload
pub record IsHeld (token : Token) (asked : Asked) (marked : Marked) : Type 0 where
  pub unbound : token.parts.binding ≡ None
  pub checked : IsChecked token asked.rules marked

-- besides, each wanted place is there, and the rule may allow the place of each
-- disclosure that leads to one
pub record IsAgreed {F : Type 0} (answers : RuleAnswers F) (rule : F) (token : Token)
    (asked : Asked) (marked : Marked) : Type 0 where
  pub held : IsHeld token asked marked
  pub there : AtNone (IsMissing (strip marked) asked.want)
  pub allowed : AllAllowed answers rule marked (chosen marked asked.want)

-- ---- key binding

-- the payload names the key of this name, where there is one (RFC 7800 section 3.4)
abbrev pub NamesKid : Option Text → Tree → Type 0
NamesKid None payload = Unit {0}
NamesKid (Some kid) payload = holder_kid payload ≡ Some kid

-- the payload names the key of the ask, where a key binding token is asked for
abbrev pub NamesKey : Option BindingAsked → Tree → Type 0
NamesKey None payload = Unit {0}
NamesKey (Some ask) payload = NamesKid ask.kid payload

-- the key binding token is what is asked for, over this text, and is read as that
pub record IsBoundBy (ask : BindingAsked) (alg : Text) (good : Meaning) (hash : HashAlg)
    (text : Text) (now : ℕ) (token : JwtParts) : Type 0 where
  pub is_binding : IsBinding alg good hash text ask.aud ask.nonce now token
  pub read_back : IsReadBack alg hash text ask.aud ask.nonce now token

-- the answer has the key binding token that is asked for, over its own text, or
-- none where none is asked for
abbrev pub IsBoundWith : Option BindingAsked → Text → Meaning → HashAlg → Text → ℕ → Option JwtParts
    → Type 0
IsBoundWith None alg good hash text now binding = binding ≡ None
IsBoundWith (Some ask) alg good hash text now None = ⊥
IsBoundWith (Some ask) alg good hash text now (Some token) =
    IsBoundBy ask alg good hash text now token

abbrev pub IsBoundAs : Option BindingAsked → Text → Meaning → HashAlg → ℕ → Parts → Type 0
IsBoundAs ask alg good hash now answer =
    IsBoundWith ask alg good hash (hashed answer) now answer.binding

-- ---- the answer

-- the chosen disclosures of the token are presented as is asked, by a signer of the algorithm of
-- this name with these good signatures, at a moment in seconds since 1970
pub record IsAnswer {F : Type 0} (answers : RuleAnswers F) (rule : F) (token : Token)
    (asked : Asked) (alg : Text) (good : Meaning) (now : ℕ) (answer : Parts) : Type 0 where
  pub marked : Marked
  pub agreed : IsAgreed answers rule token asked marked
  pub key : NamesKey asked.binding (shown_for marked asked.want)
  pub presents : PicksParts token.parts (chosen marked asked.want) answer.binding answer
  pub hash : HashAlg
  pub has_hash : HasHash token hash
  pub bound : IsBoundAs asked.binding alg good hash now answer

-- the same of a text
pub record IsPresented {F : Type 0} (answers : RuleAnswers F) (rule : F) (content : Text)
    (asked : Asked) (alg : Text) (good : Meaning) (now : ℕ) (answer : Parts) : Type 0 where
  pub token : Token
  pub is_token : IsToken content token
  pub is_answer : IsAnswer answers rule token asked alg good now answer

-- ---- the refusals

-- the first wanted path that leads nowhere
pub record IsWantedNotThere (token : Token) (asked : Asked) (k : ℕ) : Type 0 where
  pub marked : Marked
  pub held : IsHeld token asked marked
  pub missing : IsLeast (IsMissing (strip marked) asked.want) k

-- each wanted place is there, and this is the least chosen disclosure whose
-- place the rule may refuse
pub record IsConsentRefused {F : Type 0} (answers : RuleAnswers F) (rule : F) (token : Token)
    (asked : Asked) (i : ℕ) : Type 0 where
  pub marked : Marked
  pub held : IsHeld token asked marked
  pub there : AtNone (IsMissing (strip marked) asked.want)
  pub refused : IsRefusedAt answers rule marked (chosen marked asked.want) i

-- a key binding token is asked for, and what is to be shown does not name its key
pub record IsBindingKeyOther {F : Type 0} (answers : RuleAnswers F) (rule : F) (token : Token)
    (asked : Asked) : Type 0 where
  pub marked : Marked
  pub agreed : IsAgreed answers rule token asked marked
  pub binding : BindingAsked
  pub asked_for : asked.binding ≡ Some binding
  pub kid : Text
  pub named : binding.kid ≡ Some kid
  pub differs : holder_kid (shown_for marked asked.want) ≢ Some kid

-- nothing is refused before a key binding token that is asked for is signed
pub record IsPresentToBeSigned {F : Type 0} (answers : RuleAnswers F) (rule : F) (token : Token)
    (asked : Asked) : Type 0 where
  pub marked : Marked
  pub agreed : IsAgreed answers rule token asked marked
  pub binding : BindingAsked
  pub asked_for : asked.binding ≡ Some binding
  pub key : NamesKid binding.kid (shown_for marked asked.want)

-- what is presented is too long, with some good signature
pub record IsPresentTooLong {F : Type 0} (answers : RuleAnswers F) (rule : F) (token : Token)
    (asked : Asked) (alg : Text) (good : Meaning) (now : ℕ) : Type 0 where
  pub answer : Parts
  pub is_answer : IsAnswer answers rule token asked alg good now answer
  pub long : compact_max < length (compact answer)

-- what each refusal of a token says: that it applies, and no earlier one; want
-- of memory says nothing
abbrev pub IsNoAnswer : {F : Type 0} → RuleAnswers F → F → Token → Asked → Text → Meaning → ℕ
    → PresentError → Type 0
IsNoAnswer answers rule token asked alg good now Memory = Unit {0}
IsNoAnswer answers rule token asked alg good now HasBinding = token.parts.binding ≢ None
IsNoAnswer answers rule token asked alg good now (OnCondition fault) =
    (token.parts.binding ≡ None) × IsLowest (TokenFails token asked.rules) fault
IsNoAnswer answers rule token asked alg good now (NoSuchPlace k) = IsWantedNotThere token asked k
IsNoAnswer answers rule token asked alg good now (ConsentRefused i) =
    IsConsentRefused answers rule token asked i
IsNoAnswer answers rule token asked alg good now BindingKeyDiffers =
    IsBindingKeyOther answers rule token asked
IsNoAnswer answers rule token asked alg good now SignFailed =
    IsPresentToBeSigned answers rule token asked
IsNoAnswer answers rule token asked alg good now TooLong =
    IsPresentTooLong answers rule token asked alg good now

-- why nothing is presented of a text: it is no token, by the lowest of the conditions 1 to 3, or
-- its token is refused; want of memory says nothing
pub data IsNotPresented {F : Type 0} (answers : RuleAnswers F) (rule : F) (content : Text)
    (asked : Asked) (alg : Text) (good : Meaning) (now : ℕ) (error : PresentError) : Type 0 where
  no_memory : error ≡ Memory → IsNotPresented answers rule content asked alg good now error
  not_read : (fault : Fault) → error ≡ OnCondition fault → file.IsTextRefused content fault
      → IsNotPresented answers rule content asked alg good now error
  refused : (token : Token) → IsToken content token
      → IsNoAnswer answers rule token asked alg good now error
      → IsNotPresented answers rule content asked alg good now error
