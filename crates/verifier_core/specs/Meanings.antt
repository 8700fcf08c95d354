-- Not needed to believe the program's promises: verdicts by what signatures
-- mean, and when a caller's answers are true.
use Rattle.std.specs.Prelude.{◌≡◌, ◌↔◌, ℕ, List, Some}
use Rattle.b64url_text.specs.Base64url.{Decodes}
use Rattle.claim_tree.specs.Tree.{Text, Tree, Members}
use Rattle.refusals.specs.Faults.{fault_at, failed_of}
use Rattle.refusals.specs.Lowest.{Unplaced, IsLowest, NoneFails}
use Rattle.refusals.specs.declared.condition.Condition.{Condition}
use Rattle.refusals.specs.declared.fault.Fault.{Fault}
use Rattle.refusals.specs.declared.fault.Place.{Place}
use Rattle.compact_form.specs.declared.parts.JwtParts.{JwtParts}
use Rattle.hmac_sign.specs.Signatures.{Meaning}
use Rattle.json_form.specs.Token.{IsToken}
use Rattle.json_form.specs.declared.token.Token.{Token}
use Rattle.key_binding.specs.declared.caller.SignatureAnswer.{SignatureAnswer}
use Rattle.key_binding.specs.declared.policy.BindingPolicy.{BindingPolicy}
use Rattle.marked_tree.specs.Marked.{Marked, strip}
use Rattle.verifier_core.specs.Asking.{caller_demands, issuer_answer, holder_answer, IsQuestion, IsAskedNext, IsAcceptedForAs}
use Rattle.verifier_core.specs.Verdict.{FailsFor, Opens}
use Rattle.verifier_core.specs.declared.asking.Answers.{Answers}
use Rattle.verifier_core.specs.declared.asking.Question.{Question}
use Rattle.verifier_core.specs.declared.policy.Policy.{Policy}

-- ---- which signatures are good

-- which signatures are good: the issuer's, and those of the holder whom a processed payload names
pub record Meanings : Type 1 where
  pub issuer : Meaning
  pub holder : Tree → Meaning

abbrev pub meanings : Meaning → (Tree → Meaning) → Meanings
meanings issuer holder = record { issuer = issuer; holder = holder }

-- the signature of the JWT is the base64url text of bytes that are good for its head and its body
abbrev pub IsGoodBy : Meaning → JwtParts → Type 0
IsGoodBy good signed =
    (signature : List ℕ) × Decodes signed.signature signature
    × good signed.protected signed.payload signature

-- the text is that of a token that processes to this payload, and that is sent
-- with this key binding token
pub record IsSentWith (text : List ℕ) (payload : Tree) (binding : JwtParts) : Type 0 where
  pub token : Token
  pub is_token : IsToken text token
  pub marked : Marked
  pub opens : Opens token marked
  pub payload_is : payload ≡ strip marked
  pub sent : token.parts.binding ≡ Some binding

-- ---- the verdict

-- the issuer's signature is not good
abbrev pub IsIssuerSignatureBad : Meanings → List ℕ → Type 0
IsIssuerSignatureBad by text =
    (token : Token) × IsToken text token × (IsGoodBy by.issuer token.parts.signed → ⊥)

-- a key binding token is asked for, and the signature of the one that is sent is not good
abbrev pub IsHolderSignatureBad : Meanings → List ℕ → Policy → Type 0
IsHolderSignatureBad by text policy =
    (asked : BindingPolicy) × (policy.binding ≡ Some asked)
    × (payload : Tree) × (binding : JwtParts) × IsSentWith text payload binding
    × (IsGoodBy (by.holder payload) binding → ⊥)

-- what fails each condition, where no lower one fails: every key is known, a signature is good by
-- its meaning, and the other conditions are those of a caller, which no answer bears upon
abbrev pub FailsUnder : Meanings → List ℕ → Policy → List Text → ℕ → Condition → Place → Type 0
FailsUnder by text policy binding_algs now Condition.IssuerKeyUnknown place = ⊥
FailsUnder by text policy binding_algs now Condition.BadSignature place =
    Unplaced (IsIssuerSignatureBad by text) place
FailsUnder by text policy binding_algs now Condition.HolderKeyUnknown place = ⊥
FailsUnder by text policy binding_algs now Condition.BindingSignature place =
    Unplaced (IsHolderSignatureBad by text policy) place
FailsUnder by text policy binding_algs now c place =
    FailsFor text (caller_demands policy binding_algs Answers.Nothing) now c place

-- no condition fails, and the token processes to this payload
pub record IsAcceptedUnder (by : Meanings) (text : List ℕ) (policy : Policy)
    (binding_algs : List Text) (now : ℕ) (payload : Tree)
    : Type 0 where
  pub passes : NoneFails (FailsUnder by text policy binding_algs now)
  pub token : Token
  pub is_token : IsToken text token
  pub marked : Marked
  pub opens : Opens token marked
  pub payload_is : payload ≡ strip marked

-- ---- what a caller says

-- said to be good, the signature is good; said to be bad, or of a key that is not known, it is not
abbrev pub IsTrueOf : SignatureAnswer → Meaning → JwtParts → Type 0
IsTrueOf SignatureAnswer.Good good signed = IsGoodBy good signed
IsTrueOf SignatureAnswer.Bad good signed = IsGoodBy good signed → ⊥
IsTrueOf SignatureAnswer.Unknown good signed = IsGoodBy good signed → ⊥

-- all that was said is true, of the token that the text is and of the key
-- binding token that it is sent with
pub record AreTrue (by : Meanings) (text : List ℕ) (answers : Answers) : Type 0 where
  pub issuer : (answer : SignatureAnswer) → issuer_answer answers ≡ Some answer
      → (token : Token) → IsToken text token → IsTrueOf answer by.issuer token.parts.signed
  pub holder : (answer : SignatureAnswer) → holder_answer answers ≡ Some answer
      → (payload : Tree) (binding : JwtParts) → IsSentWith text payload binding
      → IsTrueOf answer (by.holder payload) binding

-- all that was said is true, and nothing more is to be known
pub record AreTold (by : Meanings) (text : List ℕ) (policy : Policy) (binding_algs : List Text)
    (now : ℕ) (answers : Answers) : Type 0 where
  pub truth : AreTrue by text answers
  pub done : IsAskedNext text (caller_demands policy binding_algs answers) now answers → ⊥

-- the condition that fails by the meanings, where this one fails a caller: a
-- key that it does not know makes no good signature
abbrev pub by_meaning : Condition → Condition
by_meaning Condition.IssuerKeyUnknown = Condition.BadSignature
by_meaning Condition.HolderKeyUnknown = Condition.BindingSignature
by_meaning c = c

abbrev pub fault_by_meaning : Fault → Fault
fault_by_meaning fault = fault_at (by_meaning (failed_of fault)) fault.place

-- ---- the laws

-- where a caller has told what it was asked, what it accepts is what is accepted by the meanings
abbrev pub AcceptedByMeaning : Meanings → Type 0
AcceptedByMeaning by =
    (text : List ℕ) (policy : Policy) (binding_algs : List Text) (now : ℕ) (answers : Answers)
    (payload : Tree)
    → AreTold by text policy binding_algs now answers
    → IsAcceptedForAs text (caller_demands policy binding_algs answers) now payload
    ↔ IsAcceptedUnder by text policy binding_algs now payload

-- where it has, the lowest condition that fails it is the lowest by the
-- meanings, but for a key that it does not know
abbrev pub RefusedByMeaning : Meanings → Type 0
RefusedByMeaning by =
    (text : List ℕ) (policy : Policy) (binding_algs : List Text) (now : ℕ) (answers : Answers)
    (fault : Fault)
    → AreTold by text policy binding_algs now answers
    → IsLowest (FailsFor text (caller_demands policy binding_algs answers) now) fault
    → IsLowest (FailsUnder by text policy binding_algs now) (fault_by_meaning fault)

-- by the meanings a text is accepted with one payload or refused with one fault
pub record HasOneVerdictUnder (by : Meanings) (text : List ℕ) (policy : Policy)
    (binding_algs : List Text) (now : ℕ) : Type 0 where
  pub not_both : (payload : Tree) (fault : Fault)
      → IsAcceptedUnder by text policy binding_algs now payload
      → IsLowest (FailsUnder by text policy binding_algs now) fault
      → ⊥
  pub one_payload : (payload other : Tree)
      → IsAcceptedUnder by text policy binding_algs now payload
      → IsAcceptedUnder by text policy binding_algs now other
      → payload ≡ other
  pub one_fault : (fault other : Fault)
      → IsLowest (FailsUnder by text policy binding_algs now) fault
      → IsLowest (FailsUnder by text policy binding_algs now) other
      → fault ≡ other

abbrev pub OneVerdictByMeaning : Meanings → Type 0
OneVerdictByMeaning by =
    (text : List ℕ) (policy : Policy) (binding_algs : List Text) (now : ℕ)
    → HasOneVerdictUnder by text policy binding_algs now

-- the signature of a JWT is good where that of the question about it is
abbrev pub AnsweredByMeaning : Meaning → Type 0
AnsweredByMeaning good =
    (signed : JwtParts) (outer : Members) (question : Question)
    → IsQuestion signed outer question
    → IsGoodBy good signed ↔ good signed.protected signed.payload question.signature
