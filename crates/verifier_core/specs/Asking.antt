-- Not needed to believe the program's promises: verdicts where a caller checks
-- the signatures, and what is asked of it.
use Rattle.std.specs.Prelude.{◌≡◌, ℕ, ◌≤◌, ◌⊎◌, ◌++◌, List, Option, Some, None, Result, IfOk, OnOk, IsErrOf, codes, option_map}
use Rattle.b64url_text.specs.Base64url.{Decodes}
use Rattle.claim_tree.specs.Tree.{Text, Tree, Members, no_members}
use Rattle.claim_tree.specs.View.{tree_of}
use Rattle.refusals.specs.Faults.{fault_number}
use Rattle.refusals.specs.Lowest.{IsLowest}
use Rattle.refusals.specs.declared.condition.Condition.{Condition}
use Rattle.refusals.specs.declared.fault.Fault.{Fault}
use Rattle.refusals.specs.declared.fault.Place.{Place}
use Rattle.compact_form.specs.declared.parts.JwtParts.{JwtParts}
use Rattle.refusals.specs.Passing.{Passes}
use Rattle.json_form.specs.declared.token.Token.{Token}
use Rattle.json_form.specs.Token.{IsToken}
use Rattle.jws_part.specs.Header.{IsHeader}
use Rattle.key_binding.specs.Caller.{Caller, IsNoSignature}
use Rattle.key_binding.specs.Judged.{of_caller, BindingRules}
use Rattle.key_binding.specs.declared.caller.SignatureAnswer.{SignatureAnswer}
use Rattle.key_binding.specs.declared.policy.BindingPolicy.{BindingPolicy}
use Rattle.marked_tree.specs.Marked.{Marked, strip}
use Rattle.verifier_core.specs.Verdict as verdict
use Rattle.verifier_core.specs.Check.{IsSigned}
use Rattle.verifier_core.specs.Verdict.{Demands, Rules, FailsFor, Opens, IsAcceptedFor}
use Rattle.verifier_core.specs.declared.asking.Answers.{Answers}
use Rattle.verifier_core.specs.declared.asking.JudgeError.{JudgeError}
use Rattle.verifier_core.specs.declared.asking.Judgement.{Judgement}
use Rattle.verifier_core.specs.declared.asking.Question.{Question}
use Rattle.verifier_core.specs.declared.policy.Policy.{Policy}

-- ---- what is demanded

-- what was said of the issuer's signature, and of the holder's
abbrev pub issuer_answer : Answers → Option SignatureAnswer
issuer_answer Answers.Nothing = None
issuer_answer (Answers.Issuer answer) = Some answer
issuer_answer (Answers.Holder answer) = Some SignatureAnswer.Good

abbrev pub holder_answer : Answers → Option SignatureAnswer
holder_answer (Answers.Holder answer) = Some answer
holder_answer _ = None

-- a caller that takes these algorithms, and said this
abbrev pub saying : List Text → Option SignatureAnswer → Caller
saying algs answer = record { algs = algs; answer = answer }

abbrev pub asked_rules : List Text → Option SignatureAnswer → BindingPolicy → BindingRules
asked_rules algs answer policy =
    record {
      holders = of_caller (saying algs answer);
      aud = policy.aud;
      nonce = policy.nonce;
      max_age = policy.max_age;
    }

-- what a policy asks but for its keys, in whose place the caller is, with these
-- algorithms of key binding tokens
abbrev pub caller_demands : Policy → List Text → Answers → Demands
caller_demands policy binding_algs answers =
    record {
      rules = record {
        issuers = verdict.of_caller (saying policy.algs (issuer_answer answers));
        typ = policy.typ;
      };
      iss = policy.iss;
      require = policy.require;
      skew = policy.skew;
      binding = option_map (asked_rules binding_algs (holder_answer answers)) policy.binding;
    }

-- ---- what is asked

-- it is to be known whether the issuer's signature is good: no condition below 9 fails, and the
-- text of the signature is that of some bytes
pub record IsIssuerAsked (text : List ℕ) (demands : Demands) (now : ℕ) (token : Token)
    : Type 0 where
  pub is_token : IsToken text token
  pub passes : Passes 9 (FailsFor text demands now)
  pub signature : IsNoSignature token.parts.signed.signature → ⊥

-- it is to be known whether the signature of the key binding token is good: one is asked for, and
-- no condition below 27 fails, nor do 28 and 29, which are judged before the key is
pub record IsHolderAsked (text : List ℕ) (demands : Demands) (now : ℕ) (token : Token)
    (binding : JwtParts) : Type 0 where
  pub is_token : IsToken text token
  pub passes : Passes 27 (FailsFor text demands now)
  pub header : (place : Place) → FailsFor text demands now Condition.BindingHeader place → ⊥
  pub alg : (place : Place) → FailsFor text demands now Condition.BindingAlg place → ⊥
  pub rules : BindingRules
  pub wanted : demands.binding ≡ Some rules
  pub sent : token.parts.binding ≡ Some binding
  pub signature : IsNoSignature binding.signature → ⊥

-- the question is about this JWT: its text up to the signature, the signature, and its header
pub record IsQuestion (signed : JwtParts) (outer : Members) (question : Question) : Type 0 where
  pub text : question.text ≡ signed.protected ++ (codes "." ++ signed.payload)
  pub signature : Decodes signed.signature question.signature
  pub header : IsHeader signed.protected outer question.header

-- ---- what is answered

abbrev pub OnAccepted : Judgement → (Tree → Type 0) → Type 0
OnAccepted (Judgement.Accepted payload) P = P (tree_of payload)
OnAccepted _ P = Unit {0}

abbrev pub OnRefused : Judgement → (Fault → Type 0) → Type 0
OnRefused (Judgement.Refused fault) P = P fault
OnRefused _ P = Unit {0}

abbrev pub OnAsksIssuer : Judgement → (Question → Type 0) → Type 0
OnAsksIssuer (Judgement.AsksIssuer question) P = P question
OnAsksIssuer _ P = Unit {0}

abbrev pub OnAsksHolder : Judgement → (Question → Tree → Type 0) → Type 0
OnAsksHolder (Judgement.AsksHolder question payload) P = P question (tree_of payload)
OnAsksHolder _ P = Unit {0}

-- what is so where the token is opened: it is accepted, or its processed payload is handed out
-- with the question about the holder's signature
abbrev pub OnOpened : Judgement → Type 0 → Type 0
OnOpened (Judgement.Accepted payload) P = P
OnOpened (Judgement.AsksHolder question payload) P = P
OnOpened _ P = Unit {0}

-- the text is accepted with this payload
abbrev pub IsAcceptedForAs : List ℕ → Demands → ℕ → Tree → Type 0
IsAcceptedForAs text demands now payload =
    (marked : Marked) × IsAcceptedFor text demands now marked × (payload ≡ strip marked)

-- nothing was said yet, and the question is about the issuer's signature
pub record AsksIssuer (text : List ℕ) (demands : Demands) (now : ℕ) (answers : Answers)
    (question : Question) : Type 0 where
  pub unsaid : answers ≡ Answers.Nothing
  pub token : Token
  pub asked : IsIssuerAsked text demands now token
  pub question_is : IsQuestion token.parts.signed token.outer question

-- the issuer's signature was said to be good, and the question is about that of
-- the key binding token, beside the processed payload
pub record AsksHolder (text : List ℕ) (demands : Demands) (now : ℕ) (answers : Answers)
    (question : Question) (payload : Tree) : Type 0 where
  pub said : answers ≡ Answers.Issuer SignatureAnswer.Good
  pub token : Token
  pub binding : JwtParts
  pub asked : IsHolderAsked text demands now token binding
  pub question_is : IsQuestion binding no_members question
  pub marked : Marked
  pub opens : Opens token marked
  pub payload_is : payload ≡ strip marked

-- what was said last was to be known
abbrev pub WasAsked : List ℕ → Demands → ℕ → Answers → Type 0
WasAsked text demands now Answers.Nothing = Unit {0}
WasAsked text demands now (Answers.Issuer answer) =
    (token : Token) × IsIssuerAsked text demands now token
WasAsked text demands now (Answers.Holder answer) =
    (token : Token) × (binding : JwtParts) × IsHolderAsked text demands now token binding

-- more is to be known
abbrev pub IsAskedNext : List ℕ → Demands → ℕ → Answers → Type 0
IsAskedNext text demands now Answers.Nothing =
    (token : Token) × IsIssuerAsked text demands now token
IsAskedNext text demands now (Answers.Issuer answer) =
    (token : Token) × (binding : JwtParts) × IsHolderAsked text demands now token binding
IsAskedNext text demands now (Answers.Holder answer) = ⊥

-- the issuer's signature was said to be good, and the holder's where a key
-- binding token is asked for
pub record AreSaidGood (demands : Demands) (answers : Answers) : Type 0 where
  pub issuer : issuer_answer answers ≡ Some SignatureAnswer.Good
  pub holder : (rules : BindingRules) → demands.binding ≡ Some rules
      → holder_answer answers ≡ Some SignatureAnswer.Good

-- it is a verdict, not a question
abbrev pub IsDone : Judgement → Type 0
IsDone (Judgement.Accepted payload) = Unit {0}
IsDone (Judgement.Refused fault) = Unit {0}
IsDone _ = ⊥

-- ---- for private functions

-- what was said last was to be known, where this condition is the lowest that
-- fails and signatures are those of some bytes
abbrev pub IsNeededAt : Answers → ℕ → Type 0
IsNeededAt Answers.Nothing number = Unit {0}
IsNeededAt (Answers.Issuer answer) number = 9 ≤ number
IsNeededAt (Answers.Holder answer) number = (number ≡ 27) ⊎ (30 ≤ number)

-- all that is said of the answer
pub record IsJudged (text : List ℕ) (demands : Demands) (now : ℕ) (answers : Answers)
    (result : Result Judgement JudgeError) : Type 0 where
  pub accepted : IfOk result (λ j. OnAccepted j (IsAcceptedForAs text demands now))
  pub good : IfOk result (λ j. OnAccepted j (λ _. AreSaidGood demands answers))
  pub refused : IfOk result (λ j. OnRefused j (IsLowest (FailsFor text demands now)))
  pub asks_issuer : IfOk result (λ j. OnAsksIssuer j (AsksIssuer text demands now answers))
  pub asks_holder : IfOk result (λ j. OnAsksHolder j (AsksHolder text demands now answers))
  pub needed : OnOk result (WasAsked text demands now answers)
  pub done : IfOk result (λ j. IsDone j → IsAskedNext text demands now answers → ⊥)
  pub not_asked : IsErrOf result JudgeError.NotAsked → WasAsked text demands now answers → ⊥

-- where a fault is answered, the signature is bad or is not judged, or it is said to be good
abbrev pub IsEarlyOrSigned : Token → Rules → Fault → Type 0
IsEarlyOrSigned token rules fault =
    (fault_number fault ≤ 10) ⊎ IsSigned token.parts.signed token.outer rules

-- the token processes to this payload, whatever its marks
abbrev pub IsOpenedAs : Token → Tree → Type 0
IsOpenedAs token payload = (marked : Marked) × Opens token marked × (payload ≡ strip marked)
