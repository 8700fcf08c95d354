-- Not needed to believe the program's promises: what is told of a token that is presented where the
-- caller checks the issuer's signature and makes the holder's.
use Rattle.std.specs.Prelude.{◌≡◌, ◌≢◌, ◌⊎◌, ◌++◌, ℕ, List, Option, None, codes}
use Rattle.claim_tree.specs.JsonText.{json_text}
use Rattle.cli_parts.specs.Lines.{line}
use Rattle.cli_parts.specs.Replies.{Reply, gives, refuses, unreadable, Replies}
use Rattle.cli_parts.specs.Telling.{TellsFileFault}
use Rattle.compact_form.specs.Compact.{compact}
use Rattle.compact_form.specs.declared.parts.Parts.{Parts}
use Rattle.holder_core.specs.Asked.{Asked, asked_by_caller, alg_asked}
use Rattle.holder_core.specs.Present.{IsPresented, IsNotPresented}
use Rattle.holder_core.specs.PresentRefusal.{present_refusal_text}
use Rattle.holder_core.specs.ToSign.{none_good, IsIssuerAsked, AsksIssuer, IsToPresent, IsSentWith, IsUnsentWith}
use Rattle.holder_core.specs.UnsignedPresent.{IsUnsignedPresentFile, IsUnsignedPresentRefused}
use Rattle.holder_core.specs.declared.errors.PresentError.{PresentError}
use Rattle.holder_core.specs.declared.errors.PresentError.TheVariants.{Memory, SignFailed}
use Rattle.holder_core.specs.declared.present_file.UnsignedPresentFile.{UnsignedPresentFile}
use Rattle.holder_core.specs.declared.signing.UnsignedPresentation.{UnsignedPresentation}
use Rattle.json_form.specs.Token.{IsToken}
use Rattle.json_form.specs.declared.token.Token.{Token}
use Rattle.key_binding.specs.declared.caller.SignatureAnswer.{SignatureAnswer}
use Rattle.sdjwt_c.specs.Handed.{HandsBy}
use Rattle.sdjwt_c.specs.Judging.{HandsAs}
use Rattle.sdjwt_c.specs.Questions.{issuer_question}
use Rattle.selection_core.specs.Never.{never_rule}
use Rattle.verifier_core.specs.declared.asking.Question.{Question}

-- ---- for what an order says, and this word on the issuer's signature

-- what is asked of the token; a word that is not said is None
abbrev pub asked_for : UnsignedPresentFile → Option SignatureAnswer → Asked
asked_for said word = asked_by_caller said.ask word

-- this is to be signed for it
abbrev pub IsUnsignedOf :
    UnsignedPresentFile → List ℕ → ℕ → Option SignatureAnswer → UnsignedPresentation → Type 0
IsUnsignedOf said token now word unsigned =
    let alg = alg_asked said.ask.binding in
    IsToPresent never_rule said.never token (asked_for said word) alg now unsigned

-- these are presented for it, where no key binding token is asked for
abbrev pub IsSentAlone :
    UnsignedPresentFile → List ℕ → ℕ → Option SignatureAnswer → Parts → Type 0
IsSentAlone said token now word parts =
    let alg = alg_asked said.ask.binding in
    IsPresented never_rule said.never token (asked_for said word) alg none_good now parts

-- nothing is presented for it
abbrev pub IsUnsentFor :
    UnsignedPresentFile → List ℕ → ℕ → Option SignatureAnswer → PresentError → Type 0
IsUnsentFor said token now word error =
    let alg = alg_asked said.ask.binding in
    IsNotPresented never_rule said.never token (asked_for said word) alg none_good now error

-- the word on the issuer's signature is to be said, and is not
pub record IsUnsaid
    (said : UnsignedPresentFile) (file : List ℕ) (word : Option SignatureAnswer) : Type 0 where
  pub unsaid : word ≡ None
  pub token : Token
  pub is_token : IsToken file token
  pub asked : IsIssuerAsked said.ask token

-- what is presented without a key binding token, as a line
pub record GivesAlone
    (said : UnsignedPresentFile) (token : List ℕ) (now : ℕ) (word : Option SignatureAnswer)
    (text : List ℕ) : Type 0 where
  pub parts : Parts
  pub alone : IsSentAlone said token now word parts
  pub line_is : text ≡ line (compact parts)

-- the first refusal that applies before a signature is made, with its line
pub record RefusesFor
    (said : UnsignedPresentFile) (token : List ℕ) (now : ℕ) (word : Option SignatureAnswer)
    (text : List ℕ) : Type 0 where
  pub error : PresentError
  pub other : error ≢ Memory
  pub no_signer : error ≢ SignFailed
  pub said_all : IsUnsaid said token word → ⊥
  pub refused : IsUnsentFor said token now word error
  pub line_is : text ≡ line (present_refusal_text error)

-- the question about the issuer's signature, with its line
pub record AsksFor
    (said : UnsignedPresentFile) (token : List ℕ) (word : Option SignatureAnswer)
    (text : List ℕ) : Type 0 where
  pub question : Question
  pub asked : AsksIssuer token said.ask word question
  pub line_is : text ≡ line (json_text (issuer_question question))

-- the text is what is signed of the key binding token: its JWS header and its payload with the full
-- stop between them (RFC 7515 section 5.1)
pub record GivesSignedText
    (said : UnsignedPresentFile) (token : List ℕ) (now : ℕ) (word : Option SignatureAnswer)
    (text : List ℕ) : Type 0 where
  pub unsigned : UnsignedPresentation
  pub is_unsigned : IsUnsignedOf said token now word unsigned
  pub text_is : text ≡ unsigned.binding.protected ++ (codes "." ++ unsigned.binding.payload)

-- ---- the next step

-- a reply, the line of a question, or a text that is to be signed
pub data Step : Type 0 where
  replies : Reply → Step
  asks : (text : List ℕ) → Step
  to_sign : (text : List ℕ) → Step

abbrev pub StepsFor :
    UnsignedPresentFile → List ℕ → ℕ → Option SignatureAnswer → Step → Type 0
StepsFor said token now word (replies (gives text)) = GivesAlone said token now word text
StepsFor said token now word (replies (refuses text)) = RefusesFor said token now word text
StepsFor said token now word (replies (unreadable text)) = ⊥
StepsFor said token now word (asks text) = AsksFor said token word text
StepsFor said token now word (to_sign text) = GivesSignedText said token now word text

-- what is so of what the file says
pub record OfSaid (file : List ℕ) (P : UnsignedPresentFile → Type 0) : Type 0 where
  pub said : UnsignedPresentFile
  pub is_order : IsUnsignedPresentFile file said
  pub is_so : P said

-- the file says no present order without keys
abbrev pub StepsNowhere : List ℕ → Step → Type 0
StepsNowhere file (replies (unreadable text)) = TellsFileFault (IsUnsignedPresentRefused file) text
StepsNowhere file _ = ⊥

abbrev pub AsksToPresent : List ℕ → List ℕ → ℕ → Option SignatureAnswer → Step → Type 0
AsksToPresent file token now word step =
    StepsNowhere file step ⊎ OfSaid file (λ said. StepsFor said token now word step)

-- ---- the presentation

-- the line of what is presented with this signature
pub record IsLineWith (unsigned : UnsignedPresentation) (signature text : List ℕ) : Type 0 where
  pub parts : Parts
  pub with_it : IsSentWith unsigned signature parts
  pub line_is : text ≡ line (compact parts)

-- with this signature it is too long, and this is the line of that refusal
pub record IsOverlongLine
    (unsigned : UnsignedPresentation) (signature text : List ℕ) : Type 0 where
  pub error : PresentError
  pub other : error ≢ Memory
  pub long : IsUnsentWith unsigned signature error
  pub line_is : text ≡ line (present_refusal_text error)

-- what is so of what is to be signed
pub record OfUnsigned
    (said : UnsignedPresentFile) (token : List ℕ) (now : ℕ) (word : Option SignatureAnswer)
    (P : UnsignedPresentation → Type 0) : Type 0 where
  pub unsigned : UnsignedPresentation
  pub is_unsigned : IsUnsignedOf said token now word unsigned
  pub is_so : P unsigned

-- what is presented with this signature, or without one where no key binding token is asked for
abbrev pub GivesFor :
    UnsignedPresentFile → List ℕ → ℕ → Option SignatureAnswer → List ℕ → List ℕ → Type 0
GivesFor said token now word signature text =
    GivesAlone said token now word text
    ⊎ OfUnsigned said token now word (λ unsigned. IsLineWith unsigned signature text)

-- what is refused before there is a signature, and with it
abbrev pub RefusesOrIsLong :
    UnsignedPresentFile → List ℕ → ℕ → Option SignatureAnswer → List ℕ → List ℕ → Type 0
RefusesOrIsLong said token now word signature text =
    RefusesFor said token now word text
    ⊎ OfUnsigned said token now word (λ unsigned. IsOverlongLine unsigned signature text)

abbrev pub GivesPresented :
    List ℕ → List ℕ → ℕ → Option SignatureAnswer → List ℕ → List ℕ → Type 0
GivesPresented file token now word signature text =
    OfSaid file (λ said. GivesFor said token now word signature text)

abbrev pub RefusesPresented :
    List ℕ → List ℕ → ℕ → Option SignatureAnswer → List ℕ → List ℕ → Type 0
RefusesPresented file token now word signature text =
    OfSaid file (λ said. RefusesOrIsLong said token now word signature text)

abbrev pub SignsPresented :
    List ℕ → List ℕ → ℕ → Option SignatureAnswer → List ℕ → Reply → Type 0
SignsPresented file token now word signature reply =
    Replies (GivesPresented file token now word signature)
    (RefusesPresented file token now word signature)
    (TellsFileFault (IsUnsignedPresentRefused file)) reply

-- ---- what is handed

-- a reply is handed as by every call; where the caller broke no rule, a question has the number 7,
-- and a text to be signed 9
pub data HandsStepBy
    (Misused : Type 0) (Is : Step → Type 0) (before after : List ℕ) (len number : ℕ) : Type 0 where
  replied :
      HandsBy Misused (λ reply. Is (replies reply)) before after len number
      → HandsStepBy Misused Is before after len number
  asked :
      (text : List ℕ) → (Misused → ⊥) → Is (asks text) → HandsAs 7 text before after len number
      → HandsStepBy Misused Is before after len number
  signs :
      (text : List ℕ) → (Misused → ⊥) → Is (to_sign text) → HandsAs 9 text before after len number
      → HandsStepBy Misused Is before after len number
