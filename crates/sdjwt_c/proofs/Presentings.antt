-- What is told of a token that is presented where the caller checks and signs, and how it is handed over.
use Rattle.std.proofs.Common.{◌≡◌, ◌≢◌, ℕ, Bool, true, List, inl, inr, Option, None, Result, Ok, Err, refl, ap}
use Rattle.std.specs.Prelude.{IfOk, IfErr, IsErrOf, string_bytes}
use Rattle.std.specs.declared.alloc.Global.{Global}
use Rattle.std.specs.declared.string.String.{String}
use Rattle.claim_tree.specs.Tree.{Text}
use Rattle.cli_parts.specs.Lines.{line}
use Rattle.cli_parts.specs.Replies.{gives, refuses, unreadable}
use Rattle.cli_parts.specs.Stops.{OnRefused, OnUnread, OnUnreadable}
use Rattle.cli_parts.specs.Telling.{TellsFileFault}
use Rattle.cli_parts.specs.declared.stop.Stop.{Stop}
use Rattle.json_form.specs.Token.{IsToken}
use Rattle.json_form.specs.declared.token.Token.{Token}
use Rattle.selection_core.specs.Consent.{RuleAnswers, Allows}
use Rattle.holder_core.specs.Asked.{Asked}
use Rattle.holder_core.specs.Present.{IsPresented, IsNotPresented}
use Rattle.holder_core.specs.PresentRefusal.{present_refusal_text}
use Rattle.holder_core.specs.ToSign.{none_good, IsIssuerAsked, IsToPresent, OnToSign, OnPresented, AsksOrNoMemory}
use Rattle.holder_core.specs.UnsignedPresent.{IsUnsignedPresentFile, IsUnsignedPresentRefused}
use Rattle.holder_core.specs.declared.errors.PresentError.{PresentError}
use Rattle.holder_core.specs.declared.errors.PresentError.TheVariants.{Memory, Token as OnCondition, HasBinding, NoSuchPlace, ConsentRefused, BindingKeyDiffers, SignFailed, TooLong}
use Rattle.holder_core.specs.declared.present_file.UnsignedPresentFile.{UnsignedPresentFile}
use Rattle.holder_core.specs.declared.signing.Presentation.{Presentation}
use Rattle.holder_core.specs.declared.signing.UnsignedPresentation.{UnsignedPresentation}
use Rattle.holder_core.proofs.OtherRules.{presented_by, not_presented_by}
use Rattle.key_binding.specs.declared.caller.SignatureAnswer.{SignatureAnswer}
use Rattle.sdjwt_c.specs.Presenting.{IsUnsignedOf, IsUnsentFor, IsUnsaid, Step, replies, asks, to_sign, StepsFor, AsksToPresent, IsLineWith, IsOverlongLine, RefusesFor, GivesFor, RefusesOrIsLong, GivesPresented, RefusesPresented, HandsStepBy, replied, asked, signs}
use Rattle.sdjwt_c.specs.PresentingSteps.{OnStep, IsHandedStep}
use Rattle.sdjwt_c.specs.declared.presenting.Step.{Step as Told}
use Rattle.sdjwt_c.proofs.Handing.{handed_reply}

-- ---- by another rule of consent that may answer as the first does

-- the fact comes first, and tells the rule
pub to_sign_by : {F G : Type 0} {answers : RuleAnswers F} {rule : F} (content : Text) (wanted : Asked) (alg : Text) (now : ℕ) (r : Result Presentation PresentError)
    → IfOk r (λ p. OnToSign p (IsToPresent answers rule content wanted alg now)) → (others : RuleAnswers G) (other : G)
    → ((at : List Text) (b : Bool) → Allows answers rule at b → Allows others other at b) → IfOk r (λ p. OnToSign p (IsToPresent others other content wanted alg now))
to_sign_by content wanted alg now (Ok (Presentation.ToSign unsigned)) h others other carries = record {
  token = h.token;
  is_token = h.is_token;
  is_to_sign = record {
    marked = h.is_to_sign.marked;
    agreed = record { held = h.is_to_sign.agreed.held; there = h.is_to_sign.agreed.there; allowed = λ i at kept stands. carries at true (h.is_to_sign.agreed.allowed i at kept stands) };
    key = h.is_to_sign.key;
    presents = h.is_to_sign.presents;
    hash = h.is_to_sign.hash;
    has_hash = h.is_to_sign.has_hash;
    binding = h.is_to_sign.binding;
    asked_for = h.is_to_sign.asked_for;
    to_sign = h.is_to_sign.to_sign;
    payload = h.is_to_sign.payload;
  };
}
to_sign_by content wanted alg now (Ok (Presentation.AsksIssuer question)) h others other carries = tt
to_sign_by content wanted alg now (Ok (Presentation.Presented parts)) h others other carries = tt
to_sign_by content wanted alg now (Err e) h others other carries = tt

pub alone_by : {F G : Type 0} {answers : RuleAnswers F} {rule : F} (content : Text) (wanted : Asked) (alg : Text) (now : ℕ) (r : Result Presentation PresentError)
    → IfOk r (λ p. OnPresented p (IsPresented answers rule content wanted alg none_good now)) → (others : RuleAnswers G) (other : G)
    → ((at : List Text) (b : Bool) → Allows answers rule at b → Allows others other at b) → IfOk r (λ p. OnPresented p (IsPresented others other content wanted alg none_good now))
alone_by content wanted alg now (Ok (Presentation.Presented parts)) h others other carries = presented_by content wanted alg none_good now (Ok parts) h others other carries
alone_by content wanted alg now (Ok (Presentation.AsksIssuer question)) h others other carries = tt
alone_by content wanted alg now (Ok (Presentation.ToSign unsigned)) h others other carries = tt
alone_by content wanted alg now (Err e) h others other carries = tt

pub not_sent_by : {F G : Type 0} {answers : RuleAnswers F} {rule : F} (content : Text) (wanted : Asked) (alg : Text) (now : ℕ) (r : Result Presentation PresentError)
    → IfErr r (IsNotPresented answers rule content wanted alg none_good now) → (others : RuleAnswers G) (other : G)
    → ((at : List Text) (b : Bool) → Allows answers rule at b → Allows others other at b) → IfErr r (IsNotPresented others other content wanted alg none_good now)
not_sent_by content wanted alg now (Ok p) h others other carries = tt
not_sent_by content wanted alg now (Err e) h others other carries = not_presented_by content wanted alg none_good now (Err e) h others other carries

-- ---- what is not refused

-- nobody signs here
pub never_signs : {X : Type 0} (r : Result X PresentError) → (IsErrOf r SignFailed → ⊥) → IfErr r (λ error. error ≢ SignFailed)
never_signs (Ok x) h = tt
never_signs (Err error) h = λ is. h (ap Err is)

-- who is asked has no error but want of memory
only_memory : (error : PresentError) → AsksOrNoMemory (Err error) → error ≡ Memory
only_memory Memory h = refl
only_memory (OnCondition fault) h = absurd h
only_memory HasBinding h = absurd h
only_memory (NoSuchPlace k) h = absurd h
only_memory (ConsentRefused i) h = absurd h
only_memory BindingKeyDiffers h = absurd h
only_memory SignFailed h = absurd h
only_memory TooLong h = absurd h

pub asks_unsaid : (said : UnsignedPresentFile) (token : List ℕ) (word : Option SignatureAnswer) (r : Result Presentation PresentError)
    → (word ≡ None → (t : Token) → IsToken token t → IsIssuerAsked said.ask t → AsksOrNoMemory r) → IfErr r (λ error. error ≢ Memory → IsUnsaid said token word → ⊥)
asks_unsaid said token word (Ok p) h = tt
asks_unsaid said token word (Err error) h = λ other unsaid. other (only_memory error (h unsaid.unsaid unsaid.token unsaid.is_token unsaid.asked))

-- ---- the next step

-- the line of a refusal
pub refused_for : (said : UnsignedPresentFile) (token : List ℕ) (now : ℕ) (word : Option SignatureAnswer) (error : PresentError) → IsUnsentFor said token now word error → error ≢ SignFailed
    → (error ≢ Memory → IsUnsaid said token word → ⊥) → (stop : Stop) → OnRefused stop (λ _. error ≢ Memory) → OnRefused stop (λ text. text ≡ line (present_refusal_text error))
    → OnRefused stop (RefusesFor said token now word)
refused_for said token now word error refused no_signer said_all Stop.Memory cause line_is = tt
refused_for said token now word error refused no_signer said_all (Stop.Unread k) cause line_is = tt
refused_for said token now word error refused no_signer said_all (Stop.Unreadable text) cause line_is = tt
refused_for said token now word error refused no_signer said_all (Stop.Refused text) cause line_is =
    record { error = error; other = cause; no_signer = no_signer; said_all = said_all cause; refused = refused; line_is = line_is }

pub refused_step : (said : UnsignedPresentFile) (token : List ℕ) (now : ℕ) (word : Option SignatureAnswer) (stop : Stop) → OnRefused stop (RefusesFor said token now word)
    → OnUnreadable stop (λ _. ⊥) → OnUnread stop (λ _. ⊥) → OnStep (Err stop) (StepsFor said token now word)
refused_step said token now word Stop.Memory refused readable read = tt
refused_step said token now word (Stop.Unread k) refused readable read = absurd read
refused_step said token now word (Stop.Unreadable text) refused readable read = absurd readable
refused_step said token now word (Stop.Refused text) refused readable read = refused

-- what is told is so, where more is so of all that is told
step_more : (P Q : Step → Type 0) → ((told : Step) → P told → Q told) → (step : Result Told Stop) → OnStep step P → OnStep step Q
step_more P Q follows (Ok (Told.Presented text)) h = follows (replies (gives (string_bytes text))) h
step_more P Q follows (Ok (Told.Asks text)) h = follows (asks (string_bytes text)) h
step_more P Q follows (Ok (Told.ToSign text)) h = follows (to_sign (string_bytes text)) h
step_more P Q follows (Err (Stop.Refused text)) h = follows (replies (refuses (string_bytes text))) h
step_more P Q follows (Err (Stop.Unreadable text)) h = follows (replies (unreadable (string_bytes text))) h
step_more P Q follows (Err (Stop.Unread word)) h = absurd h
step_more P Q follows (Err Stop.Memory) h = tt

-- of what the file says
pub steps_by : (file token : List ℕ) (now : ℕ) (word : Option SignatureAnswer) (said : UnsignedPresentFile) → IsUnsignedPresentFile file said
    → (step : Result Told Stop) → OnStep step (StepsFor said token now word) → OnStep step (AsksToPresent file token now word)
steps_by file token now word said is_order step h =
    step_more (StepsFor said token now word) (AsksToPresent file token now word) (λ told is. inr (record { said = said; is_order = is_order; is_so = is })) step h

-- the file says nothing
pub steps_nowhere : (file token : List ℕ) (now : ℕ) (word : Option SignatureAnswer) (stop : Stop) → OnUnreadable stop (TellsFileFault (IsUnsignedPresentRefused file))
    → OnRefused stop (λ _. ⊥) → OnUnread stop (λ _. ⊥) → OnStep (Err stop) (AsksToPresent file token now word)
steps_nowhere file token now word Stop.Memory unfit fit read = tt
steps_nowhere file token now word (Stop.Unread k) unfit fit read = absurd read
steps_nowhere file token now word (Stop.Unreadable text) unfit fit read = inl unfit
steps_nowhere file token now word (Stop.Refused text) unfit fit read = absurd fit

-- what is told is handed over
pub handed_step : (Misused : Type 0) → (Misused → ⊥) → (Is : Step → Type 0) (before after : List ℕ) (len number : ℕ) (step : Result Told Stop) → OnStep step Is → IsHandedStep step before after len number
    → HandsStepBy Misused Is before after len number
handed_step Misused kept Is before after len number (Ok (Told.Presented text)) is h =
    replied (handed_reply Misused kept (λ reply. Is (replies reply)) before after len number h.0 h.1 (Ok text) is tt h.2)
handed_step Misused kept Is before after len number (Ok (Told.Asks text)) is h = asked (string_bytes text) kept is h
handed_step Misused kept Is before after len number (Ok (Told.ToSign text)) is h = signs (string_bytes text) kept is h
handed_step Misused kept Is before after len number (Err (Stop.Refused text)) is h =
    replied (handed_reply Misused kept (λ reply. Is (replies reply)) before after len number h.0 h.1 (Err (Stop.Refused text)) is tt h.2)
handed_step Misused kept Is before after len number (Err (Stop.Unreadable text)) is h =
    replied (handed_reply Misused kept (λ reply. Is (replies reply)) before after len number h.0 h.1 (Err (Stop.Unreadable text)) is tt h.2)
handed_step Misused kept Is before after len number (Err (Stop.Unread word)) is h = absurd is
handed_step Misused kept Is before after len number (Err Stop.Memory) is h =
    replied (handed_reply Misused kept (λ reply. Is (replies reply)) before after len number h.0 h.1 (Err Stop.Memory) tt tt h.2)

-- ---- the presentation

-- with a signature
pub gives_signed : (said : UnsignedPresentFile) (token : List ℕ) (now : ℕ) (word : Option SignatureAnswer) (signature : List ℕ) (unsigned : UnsignedPresentation) → IsUnsignedOf said token now word unsigned
    → (r : Result (String Global) Stop) → IfOk r (λ text. IsLineWith unsigned signature (string_bytes text)) → IfOk r (λ text. GivesFor said token now word signature (string_bytes text))
gives_signed said token now word signature unsigned is_unsigned (Ok text) h = inr (record { unsigned = unsigned; is_unsigned = is_unsigned; is_so = h })
gives_signed said token now word signature unsigned is_unsigned (Err stop) h = tt

pub overlong_for : (said : UnsignedPresentFile) (token : List ℕ) (now : ℕ) (word : Option SignatureAnswer) (signature : List ℕ) (unsigned : UnsignedPresentation) → IsUnsignedOf said token now word unsigned
    → (stop : Stop) → OnRefused stop (IsOverlongLine unsigned signature) → OnRefused stop (RefusesOrIsLong said token now word signature)
overlong_for said token now word signature unsigned is_unsigned Stop.Memory h = tt
overlong_for said token now word signature unsigned is_unsigned (Stop.Unread k) h = tt
overlong_for said token now word signature unsigned is_unsigned (Stop.Unreadable text) h = tt
overlong_for said token now word signature unsigned is_unsigned (Stop.Refused text) h = inr (record { unsigned = unsigned; is_unsigned = is_unsigned; is_so = h })

pub refuses_signed : (said : UnsignedPresentFile) (token : List ℕ) (now : ℕ) (word : Option SignatureAnswer) (signature : List ℕ) (unsigned : UnsignedPresentation) → IsUnsignedOf said token now word unsigned
    → (r : Result (String Global) Stop) → IfErr r (λ stop. OnRefused stop (IsOverlongLine unsigned signature)) → IfErr r (λ stop. OnRefused stop (RefusesOrIsLong said token now word signature))
refuses_signed said token now word signature unsigned is_unsigned (Ok text) h = tt
refuses_signed said token now word signature unsigned is_unsigned (Err stop) h = overlong_for said token now word signature unsigned is_unsigned stop h

-- before there is one
pub refused_before : (said : UnsignedPresentFile) (token : List ℕ) (now : ℕ) (word : Option SignatureAnswer) (signature : List ℕ) (stop : Stop) → OnRefused stop (RefusesFor said token now word)
    → OnRefused stop (RefusesOrIsLong said token now word signature)
refused_before said token now word signature Stop.Memory h = tt
refused_before said token now word signature (Stop.Unread k) h = tt
refused_before said token now word signature (Stop.Unreadable text) h = tt
refused_before said token now word signature (Stop.Refused text) h = inl h

-- of what the file says
module _ (file : List ℕ) (said : UnsignedPresentFile) (is_order : IsUnsignedPresentFile file said) (token : List ℕ) (now : ℕ) (word : Option SignatureAnswer) (signature : List ℕ) where
  pub gives_by : (r : Result (String Global) Stop) → IfOk r (λ text. GivesFor said token now word signature (string_bytes text))
      → IfOk r (λ text. GivesPresented file token now word signature (string_bytes text))
  gives_by (Ok text) h = record { said = said; is_order = is_order; is_so = h }
  gives_by (Err stop) h = tt

  refused_by : (stop : Stop) → OnRefused stop (RefusesOrIsLong said token now word signature) → OnRefused stop (RefusesPresented file token now word signature)
  refused_by Stop.Memory h = tt
  refused_by (Stop.Unread k) h = tt
  refused_by (Stop.Unreadable text) h = tt
  refused_by (Stop.Refused text) h = record { said = said; is_order = is_order; is_so = h }

  pub refuses_by : (r : Result (String Global) Stop) → IfErr r (λ stop. OnRefused stop (RefusesOrIsLong said token now word signature))
      → IfErr r (λ stop. OnRefused stop (RefusesPresented file token now word signature))
  refuses_by (Ok text) h = tt
  refuses_by (Err stop) h = refused_by stop h
