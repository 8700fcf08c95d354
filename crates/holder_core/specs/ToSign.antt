-- Not needed to believe the program's promises: presenting in two steps, where
-- a caller checks the issuer's signature and makes the holder's: what is asked,
-- what is to be signed, and what is presented then.
use Rattle.std.specs.Prelude.{◌≡◌, ◌<◌, ℕ, List, [], length, None, Some, Option, Result, Ok, Err}
use Rattle.claim_tree.specs.Tree.{Text}
use Rattle.claim_tree.specs.View.{tree_of}
use Rattle.b64url_text.specs.Base64url.{IsWord}
use Rattle.compact_form.specs.Compact.{AreWords, compact, hashed}
use Rattle.refusals.specs.Passing.{Passes}
use Rattle.compact_form.specs.declared.parts.JwtParts.{JwtParts}
use Rattle.compact_form.specs.declared.parts.Parts.{Parts}
use Rattle.sd_outside.specs.Limits.{compact_max}
use Rattle.disclosure.specs.declared.digests.HashAlg.{HashAlg}
use Rattle.hmac_sign.specs.Signatures.{Meaning}
use Rattle.hmac_sign.specs.SignedJwt.{IsSignedWith}
use Rattle.hmac_sign.specs.declared.unsigned_jwt.UnsignedJwt.{UnsignedJwt}
use Rattle.json_form.specs.Token.{IsToken}
use Rattle.json_form.specs.declared.token.Token.{Token}
use Rattle.key_binding.specs.Binding.{IsUnsignedBinding, AreReadBack}
use Rattle.key_binding.specs.Caller.{IsNoSignature}
use Rattle.key_binding.specs.declared.caller.SignatureAnswer.{SignatureAnswer}
use Rattle.marked_tree.specs.Marked.{Marked}
use Rattle.marked_tree.specs.Paths.{chosen}
use Rattle.selection_core.specs.Consent.{RuleAnswers}
use Rattle.verifier_core.specs.Asking.{IsQuestion}
use Rattle.verifier_core.specs.Verdict.{TokenFails, HasHash}
use Rattle.verifier_core.specs.declared.asking.Question.{Question}
use Rattle.holder_core.specs.Asked.{Asked, BindingAsked, caller_rules}
use Rattle.holder_core.specs.Present.{shown_for, IsAgreed, NamesKey, PicksParts}
use Rattle.holder_core.specs.declared.ask.CallerAsk.{CallerAsk}
use Rattle.holder_core.specs.declared.errors.PresentError.{PresentError}
use Rattle.holder_core.specs.declared.errors.PresentError.TheVariants.{Memory, SignFailed, TooLong}
use Rattle.holder_core.specs.declared.signing.Presentation.{Presentation}
use Rattle.holder_core.specs.declared.signing.UnsignedPresentation.{UnsignedPresentation}

-- no signature is good, as before one is made
abbrev pub none_good : Meaning
none_good head body signature = ⊥

-- ---- the issuer's signature

-- it is to be known whether the issuer's signature is good: the token has no
-- key binding token, no condition below 10 fails where nothing is said, and the
-- text of the signature is that of some bytes
pub record IsIssuerAsked (ask : CallerAsk) (token : Token) : Type 0 where
  pub unbound : token.parts.binding ≡ None
  pub passes : Passes 10 (TokenFails token (caller_rules ask.algs None))
  pub signature : IsNoSignature token.parts.signed.signature → ⊥

-- nothing was said, and the question is about the issuer's signature
pub record AsksIssuer (content : Text) (ask : CallerAsk) (answer : Option SignatureAnswer)
    (question : Question) : Type 0 where
  pub unsaid : answer ≡ None
  pub token : Token
  pub is_token : IsToken content token
  pub asked : IsIssuerAsked ask token
  pub question_is : IsQuestion token.parts.signed token.outer question

-- ---- the holder's signature

-- it is the key binding token that is asked for, over this text, but for its
-- signature, and is read as that
pub record IsUnsignedFor (ask : BindingAsked) (alg : Text) (hash : HashAlg) (text : Text) (now : ℕ)
    (unsigned : UnsignedJwt) : Type 0 where
  pub texts : IsUnsignedBinding alg hash text ask.aud ask.nonce now unsigned
  pub read_back : AreReadBack alg hash text ask.aud ask.nonce now unsigned.protected
      unsigned.payload

-- nothing is refused of the token: its chosen disclosures are there, with the key binding token
-- over them that is to be signed by the algorithm of this name, and with what they show
pub record IsToSign {F : Type 0} (answers : RuleAnswers F) (rule : F) (token : Token)
    (asked : Asked) (alg : Text) (now : ℕ) (unsigned : UnsignedPresentation) : Type 0 where
  pub marked : Marked
  pub agreed : IsAgreed answers rule token asked marked
  pub key : NamesKey asked.binding (shown_for marked asked.want)
  pub presents : PicksParts token.parts (chosen marked asked.want) None unsigned.parts
  pub hash : HashAlg
  pub has_hash : HasHash token hash
  pub binding : BindingAsked
  pub asked_for : asked.binding ≡ Some binding
  pub to_sign : IsUnsignedFor binding alg hash (hashed unsigned.parts) now unsigned.binding
  pub payload : tree_of unsigned.payload ≡ shown_for marked asked.want

-- the same of a text
pub record IsToPresent {F : Type 0} (answers : RuleAnswers F) (rule : F) (content : Text)
    (asked : Asked) (alg : Text) (now : ℕ) (unsigned : UnsignedPresentation) : Type 0 where
  pub token : Token
  pub is_token : IsToken content token
  pub is_to_sign : IsToSign answers rule token asked alg now unsigned

-- the parts with the key binding token that has this signature
pub record IsSentWith (unsigned : UnsignedPresentation) (signature : List ℕ) (answer : Parts)
    : Type 0 where
  pub signed : answer.signed ≡ unsigned.parts.signed
  pub disclosures : answer.disclosures ≡ unsigned.parts.disclosures
  pub token : JwtParts
  pub binding : answer.binding ≡ Some token
  pub with_it : IsSignedWith unsigned.binding signature token

-- the parts with a signature that is good, and not empty
pub record IsSentBy (unsigned : UnsignedPresentation) (good : Meaning) (answer : Parts)
    : Type 0 where
  pub signature : List ℕ
  pub some : 0 < length signature
  pub with_it : IsSentWith unsigned signature answer
  pub signed : good unsigned.binding.protected unsigned.binding.payload signature

-- the signature has no bytes, or they are too long with it; want of memory says nothing
abbrev pub IsUnsentWith : UnsignedPresentation → List ℕ → PresentError → Type 0
IsUnsentWith unsigned signature Memory = Unit {0}
IsUnsentWith unsigned signature SignFailed = signature ≡ []
IsUnsentWith unsigned signature TooLong =
    (answer : Parts) × IsSentWith unsigned signature answer
    × (compact_max < length (compact answer))
IsUnsentWith unsigned signature _ = ⊥

-- its texts are words, so that what is presented is well formed
pub record AreUnsignedWords (unsigned : UnsignedPresentation) : Type 0 where
  pub parts : AreWords unsigned.parts
  pub protected : IsWord unsigned.binding.protected
  pub payload : IsWord unsigned.binding.payload

-- ---- what is answered

abbrev pub OnAsksIssuer : Presentation → (Question → Type 0) → Type 0
OnAsksIssuer (Presentation.AsksIssuer question) P = P question
OnAsksIssuer _ P = Unit {0}

abbrev pub OnToSign : Presentation → (UnsignedPresentation → Type 0) → Type 0
OnToSign (Presentation.ToSign unsigned) P = P unsigned
OnToSign _ P = Unit {0}

abbrev pub OnPresented : Presentation → (Parts → Type 0) → Type 0
OnPresented (Presentation.Presented parts) P = P parts
OnPresented _ P = Unit {0}

-- what is so where the token is opened: it is presented, or once it is signed
abbrev pub OnPicked : Presentation → Type 0 → Type 0
OnPicked (Presentation.AsksIssuer question) P = Unit {0}
OnPicked _ P = P

-- the caller is asked for the issuer's signature, unless there is no memory
abbrev pub AsksOrNoMemory : Result Presentation PresentError → Type 0
AsksOrNoMemory (Ok (Presentation.AsksIssuer question)) = Unit {0}
AsksOrNoMemory (Err Memory) = Unit {0}
AsksOrNoMemory _ = ⊥
