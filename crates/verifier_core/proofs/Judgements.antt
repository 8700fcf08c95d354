-- What is answered where a caller checks the signatures, from what was to be known.
use Rattle.std.specs.Prelude.{IfOk, IsOk}
use Rattle.std.proofs.Common.{◌≡◌, ◌<◌, ℕ, List, None, Result, Ok, Err, refl, sym, subst, arith}
use Rattle.claim_tree.specs.Tree.{Text}
use Rattle.claim_tree.specs.View.{tree_of}
use Rattle.claim_tree.specs.declared.tree.Tree as owned
use Rattle.refusals.specs.Lowest.{IsLowest}
use Rattle.refusals.specs.declared.fault.Fault.{Fault}
use Rattle.refusals.specs.Faults.{failed_of}
use Rattle.json_form.specs.Token.{IsToken}
use Rattle.json_form.specs.declared.token.Token.{Token}
use Rattle.key_binding.specs.declared.caller.SignatureAnswer.{SignatureAnswer}
use Rattle.verifier_core.specs.Asking.{WasAsked, IsAskedNext, IsJudged, IsDone, AsksIssuer, AsksHolder, AreSaidGood, IsAcceptedForAs, caller_demands, OnAccepted, OnRefused, OnAsksIssuer, OnAsksHolder, OnOpened}
use Rattle.verifier_core.specs.AskingSteps.{demands_in, fails_in, WasAskedIn}
use Rattle.verifier_core.specs.Check.{IsSigned}
use Rattle.verifier_core.specs.Verdict.{Demands, FailsFor, Opens}
use Rattle.verifier_core.specs.declared.asking.Answers.{Answers}
use Rattle.verifier_core.specs.declared.asking.Case.{Case}
use Rattle.verifier_core.specs.declared.asking.JudgeError.{JudgeError}
use Rattle.verifier_core.specs.declared.asking.Judgement.{Judgement}
use Rattle.verifier_core.specs.declared.asking.Question.{Question}
use Rattle.verifier_core.specs.declared.policy.Policy.{Policy}
use Rattle.verifier_core.specs.declared.token_checking.VerifyError.{VerifyError}
use Rattle.verifier_core.proofs.Asked.{SaidGood, said_issuer, issuer_asked, done_below, passed, one_read, signed_text, not_unsaid, said_good}
use Rattle.verifier_core.proofs.HolderAsked.{accepted_needed, accepted_done, accepted_good}

module _ (text : List ℕ) (demands : Demands) (now : ℕ) (answers : Answers) where
  judged_as : (j : Judgement) → OnAccepted j (IsAcceptedForAs text demands now) → OnAccepted j (λ _. AreSaidGood demands answers) → OnRefused j (IsLowest (FailsFor text demands now))
      → OnAsksIssuer j (AsksIssuer text demands now answers) → OnAsksHolder j (AsksHolder text demands now answers) → WasAsked text demands now answers → (IsDone j → IsAskedNext text demands now answers → ⊥)
      → IsJudged text demands now answers (Ok j)
  judged_as j accepted good refused asks_issuer asks_holder needed done = record {
    accepted = accepted;
    good = good;
    refused = refused;
    asks_issuer = asks_issuer;
    asks_holder = asks_holder;
    needed = needed;
    done = done;
    not_asked = λ e. cc e;
  }

  pub judged_accepted : (payload : owned.Tree) → IsAcceptedForAs text demands now (tree_of payload) → AreSaidGood demands answers → WasAsked text demands now answers → (IsAskedNext text demands now answers → ⊥)
      → IsJudged text demands now answers (Ok (Judgement.Accepted payload))
  judged_accepted payload accepted good needed done = judged_as (Judgement.Accepted payload) accepted good tt tt tt needed (λ is. done)

  pub judged_refused : (fault : Fault) → IsLowest (FailsFor text demands now) fault → WasAsked text demands now answers → (IsAskedNext text demands now answers → ⊥) → IsJudged text demands now answers (Ok (Judgement.Refused fault))
  judged_refused fault lowest needed done = judged_as (Judgement.Refused fault) tt tt lowest tt tt needed (λ is. done)

  pub judged_issuer : (question : Question) → AsksIssuer text demands now answers question → IsJudged text demands now answers (Ok (Judgement.AsksIssuer question))
  judged_issuer question asks = judged_as (Judgement.AsksIssuer question) tt tt tt asks tt (subst (WasAsked text demands now) (sym asks.unsaid) tt) (λ is. absurd is)

  pub judged_holder : (question : Question) (payload : owned.Tree) → AsksHolder text demands now answers question (tree_of payload) → WasAsked text demands now answers → IsJudged text demands now answers (Ok (Judgement.AsksHolder question payload))
  judged_holder question payload asks needed = judged_as (Judgement.AsksHolder question payload) tt tt tt tt asks needed (λ is. absurd is)

  pub judged_not_asked : (WasAsked text demands now answers → ⊥) → IsJudged text demands now answers (Err JudgeError.NotAsked)
  judged_not_asked none = record {
    accepted = tt;
    good = tt;
    refused = tt;
    asks_issuer = tt;
    asks_holder = tt;
    needed = tt;
    done = tt;
    not_asked = λ is. none;
  }

-- where nothing was said of the holder, the issuer's signature was said to be good
pub said_of_issuer : (answers : Answers) → SaidGood answers → ((answer : SignatureAnswer) → answers ≡ Answers.Holder answer → ⊥) → answers ≡ Answers.Issuer SignatureAnswer.Good
said_of_issuer Answers.Nothing said other = cc said
said_of_issuer (Answers.Issuer answer) said other = said_issuer answer said
said_of_issuer (Answers.Holder answer) said other = absurd (other answer refl)

-- where the signature of the key binding token is not good and nothing was said of it, the issuer's was said to be good, as was to be known
module _ (k : Case) (fault : Fault) (l : IsLowest (fails_in k) fault) (at : fault.number ≡ 30) (token : Token) (is : IsToken k.text.now token)
    (signed : IsSigned token.parts.signed token.outer (demands_in k).rules) (other : (answer : SignatureAnswer) → k.answers ≡ Answers.Holder answer → ⊥) where
  pub said_alone : k.answers ≡ Answers.Issuer SignatureAnswer.Good
  said_alone = said_of_issuer k.answers (said_good k.answers (not_unsaid k.policy.now k.binding_algs.now k.answers token signed)) other

  pub alone_needed : WasAskedIn k
  alone_needed =
      let asked = issuer_asked k.text.now (demands_in k) k.now fault l token is (omega (arith, at)) (signed_text k.policy.now k.binding_algs.now k.answers token signed) in
      subst (WasAsked k.text.now (demands_in k) k.now) (sym said_alone) (token, asked)

-- nothing is next where the issuer's signature is not good and something was said of it
pub none_next_of_issuer : (text : List ℕ) (demands : Demands) (now : ℕ) (fault : Fault) → IsLowest (FailsFor text demands now) fault → fault.number ≡ 10 → (answers : Answers) → (answers ≡ Answers.Nothing → ⊥) → IsAskedNext text demands now answers → ⊥
none_next_of_issuer text demands now fault l at Answers.Nothing other next = other refl
none_next_of_issuer text demands now fault l at (Answers.Issuer answer) other next = done_below text demands now fault l (Answers.Issuer SignatureAnswer.Good) refl (omega (arith, at)) next
none_next_of_issuer text demands now fault l at (Answers.Holder answer) other next = next

-- what is answered where no condition fails, and nothing was said of a key binding token unless one is asked for
pub judged_good : (text : List ℕ) (policy : Policy) (algs : List Text) (now : ℕ) (answers : Answers) (token : Token) (payload : owned.Tree)
    → IsToken text token → IsSigned token.parts.signed token.outer (caller_demands policy algs answers).rules
    → IsAcceptedForAs text (caller_demands policy algs answers) now (tree_of payload)
    → ((answer : SignatureAnswer) → answers ≡ Answers.Holder answer → policy.binding ≡ None → ⊥)
    → IsJudged text (caller_demands policy algs answers) now answers (Ok (Judgement.Accepted payload))
judged_good text policy algs now answers token payload is signed (marked, accepted, payload_is) wanted =
    let opens = one_read text token accepted.token (λ (t : Token). Opens t marked) is accepted.is_token accepted.opens in
    let signature = signed_text policy algs answers token signed in
    let said = said_good answers (not_unsaid policy algs answers token signed) in
    judged_accepted text (caller_demands policy algs answers) now answers payload (marked, accepted, payload_is)
    (record { issuer = said; holder = accepted_good text policy algs now answers accepted.passes token is marked opens signature })
    (accepted_needed text policy algs now answers accepted.passes token is marked opens signature wanted)
    (accepted_done text policy algs now answers accepted.passes token is marked opens signature said)

-- ---- the look-ups

-- what is so where the payload is opened is so of a token that is opened
pub opened_so : {A : Type 0} (result : Result Judgement JudgeError) (opened : Result A VerifyError) (P : Type 0)
    → IfOk result (λ j. OnOpened j (IsOk opened)) → IfOk opened (λ _. P) → IfOk result (λ j. OnOpened j P)
opened_so (Ok (Judgement.Accepted payload)) (Ok shown) P is h = h
opened_so (Ok (Judgement.Accepted payload)) (Err error) P is h = cc is
opened_so (Ok (Judgement.AsksHolder question payload)) (Ok shown) P is h = h
opened_so (Ok (Judgement.AsksHolder question payload)) (Err error) P is h = cc is
opened_so (Ok (Judgement.Refused fault)) opened P is h = tt
opened_so (Ok (Judgement.AsksIssuer question)) opened P is h = tt
opened_so (Err error) opened P is h = tt

-- what is so is so where a token is opened
pub where_opened : (result : Result Judgement JudgeError) (P : Type 0) → P → IfOk result (λ j. OnOpened j P)
where_opened (Ok (Judgement.Accepted payload)) P h = h
where_opened (Ok (Judgement.AsksHolder question payload)) P h = h
where_opened (Ok (Judgement.Refused fault)) P h = tt
where_opened (Ok (Judgement.AsksIssuer question)) P h = tt
where_opened (Err error) P h = tt

-- no token is opened of which a condition below 27 fails
pub not_opened : (text : List ℕ) (demands : Demands) (now : ℕ) (answers : Answers) (fault : Fault)
    → IsLowest (FailsFor text demands now) fault → fault.number < 27
    → (result : Result Judgement JudgeError) (P : Type 0) → IsJudged text demands now answers result
    → IfOk result (λ j. OnOpened j P)
not_opened text demands now answers fault l low (Ok (Judgement.Accepted payload)) P judged =
    absurd (judged.accepted.1.passes (failed_of fault) fault.place l.fails)
not_opened text demands now answers fault l low (Ok (Judgement.AsksHolder question payload)) P judged =
    let high = passed text demands now fault l 27 judged.asks_holder.asked.passes in absurd (omega (arith, low, high))
not_opened text demands now answers fault l low (Ok (Judgement.Refused other)) P judged = tt
not_opened text demands now answers fault l low (Ok (Judgement.AsksIssuer question)) P judged = tt
not_opened text demands now answers fault l low (Err error) P judged = tt

-- the issuer's signature is not asked for where it is good
pub not_issuer : (text : List ℕ) (policy : Policy) (algs : List Text) (now : ℕ) (answers : Answers) (token : Token)
    → IsSigned token.parts.signed token.outer (caller_demands policy algs answers).rules
    → (result : Result Judgement JudgeError) (P : Question → Type 0)
    → IsJudged text (caller_demands policy algs answers) now answers result
    → IfOk result (λ j. OnAsksIssuer j P)
not_issuer text policy algs now answers token signed (Ok (Judgement.AsksIssuer question)) P judged =
    let said = said_good answers (not_unsaid policy algs answers token signed) in
    let good : SaidGood Answers.Nothing = subst SaidGood judged.asks_issuer.unsaid said in
    cc good
not_issuer text policy algs now answers token signed (Ok (Judgement.Accepted payload)) P judged = tt
not_issuer text policy algs now answers token signed (Ok (Judgement.AsksHolder question payload)) P judged = tt
not_issuer text policy algs now answers token signed (Ok (Judgement.Refused fault)) P judged = tt
not_issuer text policy algs now answers token signed (Err error) P judged = tt

-- what is so is so where the issuer's signature is asked for
pub where_issuer : (result : Result Judgement JudgeError) (P : Type 0) → P → IfOk result (λ j. OnAsksIssuer j (λ _. P))
where_issuer (Ok (Judgement.AsksIssuer question)) P h = h
where_issuer (Ok (Judgement.Accepted payload)) P h = tt
where_issuer (Ok (Judgement.AsksHolder question payload)) P h = tt
where_issuer (Ok (Judgement.Refused fault)) P h = tt
where_issuer (Err error) P h = tt
