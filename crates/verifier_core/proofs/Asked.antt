-- Where a caller checks the signatures: when the issuer's was to be known, and when it is next.
use Rattle.std.proofs.Common.{◌≡◌, ℕ, ◌<◌, ◌≤◌, ◌⊎◌, inl, inr, List, Some, refl, sym, ap, subst, ◌∙◌, arith}
use Rattle.b64url_text.specs.NotBase64.{IsNotBase64}
use Rattle.claim_tree.specs.Tree.{Text}
use Rattle.refusals.specs.Condition.{number_of}
use Rattle.refusals.specs.Faults.{failed_of}
use Rattle.refusals.specs.Lowest.{IsLowest, IsNoLater}
use Rattle.refusals.specs.Numbered.{one_condition}
use Rattle.refusals.specs.Passing.{Passes}
use Rattle.refusals.specs.declared.condition.Condition.{Condition}
use Rattle.refusals.specs.declared.fault.Fault.{Fault}
use Rattle.refusals.specs.declared.fault.Place.{Place}
use Rattle.refusals.specs.declared.fault.Place.TheVariants.{Nowhere}
use Rattle.json_form.specs.Token.{IsToken}
use Rattle.json_form.specs.declared.token.Token.{Token}
use Rattle.json_form.proofs.Tokens as tokens
use Rattle.jws_part.specs.Header.{IsHeaderUnreadable, IsHeaderCritical}
use Rattle.key_binding.specs.declared.caller.SignatureAnswer.{SignatureAnswer}
use Rattle.refusals.proofs.Lowest.{below_or_at}
use Rattle.verifier_core.specs.Asking.{caller_demands, issuer_answer, IsEarlyOrSigned, WasAsked, IsAskedNext, IsIssuerAsked, IsNeededAt}
use Rattle.verifier_core.specs.Check.{IsSigned}
use Rattle.marked_tree.specs.Marked.{strip}
use Rattle.json_form.specs.Token as file
use Rattle.verifier_core.proofs.ClaimSteps.{claim_numbers}
use Rattle.verifier_core.proofs.Verdicts.{holder_numbers}
use Rattle.verifier_core.specs.Verdict.{Demands, TokenFails, FileFails, FailsFor, of_file, of_missing, of_token, of_claims, of_holder}
use Rattle.verifier_core.specs.declared.asking.Answers.{Answers}
use Rattle.verifier_core.specs.declared.policy.Policy.{Policy}

-- ---- the lowest that fails

module _ (text : List ℕ) (demands : Demands) (now : ℕ) (fault : Fault) (l : IsLowest (FailsFor text demands now) fault) where
  pub passes_to : (n : ℕ) → n ≤ fault.number → Passes n (FailsFor text demands now)
  passes_to n low c place h = go (l.lowest c place h)
    where
      go : (fault.number < number_of c) ⊎ ((c ≡ failed_of fault) × IsNoLater fault.place place) → n ≤ number_of c
      go (inl less) = omega (arith, low, less)
      go (inr same) = let e = ap number_of same.0 in omega (arith, low, e, fault.of_condition.1)

  pub passed : (n : ℕ) → Passes n (FailsFor text demands now) → n ≤ fault.number
  passed n passes = let low = passes (failed_of fault) fault.place l.fails in omega (arith, low, fault.of_condition.1)

  -- a condition with a lower number does not fail
  pub none_at : (c : Condition) → number_of c < fault.number → (place : Place) → FailsFor text demands now c place → ⊥
  none_at c low place h = let high = passes_to fault.number (omega arith) c place h in omega (arith, low, high)

  -- the condition of this number fails
  pub fails_at : (c : Condition) → fault.number ≡ number_of c → FailsFor text demands now c fault.place
  fails_at c is = subst (λ (x : Condition). FailsFor text demands now x fault.place) (one_condition (failed_of fault) c (sym fault.of_condition.1 ∙ is)) l.fails

  pub not_needed : (answers : Answers) → (IsNeededAt answers fault.number → ⊥) → WasAsked text demands now answers → ⊥
  not_needed Answers.Nothing none asked = none tt
  not_needed (Answers.Issuer answer) none (token, asked) = none (passed 9 asked.passes)
  not_needed (Answers.Holder answer) none (token, binding, asked) = go (cases fault.number (passed 27 asked.passes))
    where
      cases : (n : ℕ) → 27 ≤ n → ((n ≡ 27) ⊎ (30 ≤ n)) ⊎ ((n ≡ 28) ⊎ (n ≡ 29))
      cases n high = grind arith

      go : ((fault.number ≡ 27) ⊎ (30 ≤ fault.number)) ⊎ ((fault.number ≡ 28) ⊎ (fault.number ≡ 29)) → ⊥
      go (inl needed) = none needed
      go (inr (inl is)) = asked.header fault.place (fails_at Condition.BindingHeader is)
      go (inr (inr is)) = asked.alg fault.place (fails_at Condition.BindingAlg is)

-- ---- the issuer's signature

-- what is read of a text is one token
pub one_read : (text : List ℕ) (token other : Token) (P : Token → Type 0) → IsToken text token → IsToken text other → P other → P token
one_read text token other P is there h = subst P (tokens.one text other token there is) h

-- it was said to be good
abbrev pub SaidGood : Answers → Type 0
SaidGood answers = issuer_answer answers ≡ Some SignatureAnswer.Good

module _ (policy : Policy) (algs : List Text) (answers : Answers) (token : Token) (signed : IsSigned token.parts.signed token.outer (caller_demands policy algs answers).rules) where
  pub signed_text : IsNotBase64 token.parts.signed.signature → ⊥
  signed_text none = signed.good (λ answered. answered.0 none)

  pub not_unsaid : (SaidGood answers → ⊥) → ⊥
  not_unsaid none = signed.good (λ answered. none answered.1)

-- nothing else was said where the signature is good
pub said_good : (answers : Answers) → ((SaidGood answers → ⊥) → ⊥) → SaidGood answers
said_good Answers.Nothing not_none = absurd (not_none (λ e. cc e))
said_good (Answers.Issuer SignatureAnswer.Unknown) not_none = absurd (not_none (λ e. cc e))
said_good (Answers.Issuer SignatureAnswer.Bad) not_none = absurd (not_none (λ e. cc e))
said_good (Answers.Issuer SignatureAnswer.Good) not_none = refl
said_good (Answers.Holder answer) not_none = refl

pub said_issuer : (answer : SignatureAnswer) → SaidGood (Answers.Issuer answer) → Answers.Issuer answer ≡ Answers.Issuer SignatureAnswer.Good
said_issuer SignatureAnswer.Unknown e = cc e
said_issuer SignatureAnswer.Bad e = cc e
said_issuer SignatureAnswer.Good e = refl

-- a condition on the form of a text has a number of at most 3
pub file_numbers : (text : List ℕ) (c : Condition) (place : Place) → FileFails text c place → number_of c ≤ 3
file_numbers text c place (file.too_long e h) = let is = ap (λ (x : Fault). x.number) e in omega (arith, is)
file_numbers text c place (file.form at e h) = let is = ap (λ (x : Fault). x.number) e in omega (arith, is)
file_numbers text c place (file.too_much token e h much) = let is = ap (λ (x : Fault). x.number) e in omega (arith, is)

-- ---- where a condition is the lowest that lies below all that is asked

module _ (text : List ℕ) (demands : Demands) (now : ℕ) (fault : Fault) (l : IsLowest (FailsFor text demands now) fault) where
  pub needed_low : (answers : Answers) → fault.number < 9 → IsNeededAt answers fault.number → WasAsked text demands now answers
  needed_low Answers.Nothing low needed = tt
  needed_low (Answers.Issuer answer) low needed = absurd (omega (arith, low, needed))
  needed_low (Answers.Holder answer) low (inl is) = absurd (omega (arith, low, is))
  needed_low (Answers.Holder answer) low (inr high) = absurd (omega (arith, low, high))

  -- below the key binding token
  pub done_below : (answers : Answers) → SaidGood answers → fault.number < 27 → IsAskedNext text demands now answers → ⊥
  done_below Answers.Nothing said low next = cc said
  done_below (Answers.Issuer answer) said low (token, binding, asked) = let high = passed text demands now fault l 27 asked.passes in omega (arith, low, high)
  done_below (Answers.Holder answer) said low next = next

  pub done_low : (answers : Answers) → fault.number < 9 → IsAskedNext text demands now answers → ⊥
  done_low Answers.Nothing low (token, asked) = let high = passed text demands now fault l 9 asked.passes in omega (arith, low, high)
  done_low (Answers.Issuer answer) low next = done_below (Answers.Issuer SignatureAnswer.Good) refl (omega (arith, low)) next
  done_low (Answers.Holder answer) low next = next

  module _ (token : Token) (is : IsToken text token) where
    pub issuer_asked : 9 ≤ fault.number → (IsNotBase64 token.parts.signed.signature → ⊥) → IsIssuerAsked text demands now token
    issuer_asked high signature = record { is_token = is; passes = passes_to text demands now fault l 9 high; signature = signature }

    pub needed_below : (answers : Answers) → (IsNotBase64 token.parts.signed.signature → ⊥) → fault.number < 27 → IsNeededAt answers fault.number → WasAsked text demands now answers
    needed_below Answers.Nothing signature low needed = tt
    needed_below (Answers.Issuer answer) signature low needed = (token, issuer_asked needed signature)
    needed_below (Answers.Holder answer) signature low (inl at) = absurd (omega (arith, low, at))
    needed_below (Answers.Holder answer) signature low (inr high) = absurd (omega (arith, low, high))

    -- where the text of the signature is that of no bytes, nothing was to be known
    pub unsigned_unasked : (answers : Answers) → fault.number < 27 → IsNotBase64 token.parts.signed.signature → (answers ≡ Answers.Nothing → ⊥) → WasAsked text demands now answers → ⊥
    unsigned_unasked Answers.Nothing low none other asked = other refl
    unsigned_unasked (Answers.Issuer answer) low none other (t, asked) = one_read text token t (λ x. IsNotBase64 x.parts.signed.signature → ⊥) is asked.is_token asked.signature none
    unsigned_unasked (Answers.Holder answer) low none other (t, binding, asked) = let high = passed text demands now fault l 27 asked.passes in omega (arith, low, high)

    pub unsigned_next : IsNotBase64 token.parts.signed.signature → IsAskedNext text demands now Answers.Nothing → ⊥
    unsigned_next none (t, asked) = one_read text token t (λ x. IsNotBase64 x.parts.signed.signature → ⊥) is asked.is_token asked.signature none

    -- the header is read where the signature is judged
    pub header_read : fault.number ≡ 10 → IsHeaderUnreadable token.parts.signed.protected token.outer ⊎ IsHeaderCritical token.parts.signed.protected token.outer → ⊥
    header_read at (inl unread) = none_at text demands now fault l Condition.HeaderUnreadable (omega (arith, at)) Nowhere (of_token token is (refl, unread))
    header_read at (inr critical) = none_at text demands now fault l Condition.HeaderCritical (omega (arith, at)) Nowhere (of_token token is (refl, critical))

    -- a condition on the token itself fails of the token that is read
    pub token_fails : (c : Condition) (place : Place) → 4 < number_of c → number_of c < 22 → FailsFor text demands now c place → TokenFails token demands.rules c place
    token_fails c place high low (of_file h) = let number = file_numbers text c place h in absurd (omega (arith, high, number))
    token_fails c place high low (of_missing t there h) = let number = ap number_of h.0 in absurd (omega (arith, high, number))
    token_fails c place high low (of_token t there h) = one_read text token t (λ x. TokenFails x demands.rules c place) is there h
    token_fails c place high low (of_claims t marked there opens h) = let numbers = claim_numbers (strip marked) demands now c place h in absurd (omega (arith, low, numbers.0))
    token_fails c place high low (of_holder t marked hash there opens has h) = let number = holder_numbers t.parts (strip marked) hash demands now c place h in absurd (omega (arith, low, number))

-- ---- where a condition on what is read of a token is the lowest

module _ (text : List ℕ) (policy : Policy) (algs : List Text) (now : ℕ) (answers : Answers) (fault : Fault) (l : IsLowest (FailsFor text (caller_demands policy algs answers) now) fault) (token : Token) (is : IsToken text token) where
  -- the caller does not know the key
  unknown : fault.number ≡ 9 → (IsNotBase64 token.parts.signed.signature → ⊥) × (issuer_answer answers ≡ Some SignatureAnswer.Unknown)
  unknown at =
      let fails = token_fails text (caller_demands policy algs answers) now fault l token is Condition.IssuerKeyUnknown fault.place (omega arith) (omega arith) (fails_at text (caller_demands policy algs answers) now fault l Condition.IssuerKeyUnknown at) in
      fails.1.2

  nine : (n : ℕ) → n ≤ 10 → (n ≡ 10 → ⊥) → (n < 9) ⊎ (n ≡ 9)
  nine n low other = go (below_or_at n 10 low)
    where
      go : (n < 10) ⊎ (n ≡ 10) → (n < 9) ⊎ (n ≡ 9)
      go (inl less) = below_or_at n 9 (omega (arith, less))
      go (inr same) = absurd (other same)

  -- nothing else is to be known where the caller does not know the key
  unknown_next : (a : Answers) → issuer_answer a ≡ Some SignatureAnswer.Unknown → fault.number ≡ 9 → IsAskedNext text (caller_demands policy algs answers) now a → ⊥
  unknown_next Answers.Nothing e at next = cc e
  unknown_next (Answers.Issuer answer) e at next = done_below text (caller_demands policy algs answers) now fault l (Answers.Issuer SignatureAnswer.Good) refl (omega (arith, at)) next
  unknown_next (Answers.Holder answer) e at next = next

  -- what was said was to be known, and nothing more is
  pub content_needed : IsEarlyOrSigned token (caller_demands policy algs answers).rules fault → (fault.number ≡ 10 → ⊥) → fault.number ≤ 13 → IsNeededAt answers fault.number → WasAsked text (caller_demands policy algs answers) now answers
  content_needed (inr signed) other low needed = needed_below text (caller_demands policy algs answers) now fault l token is answers (signed_text policy algs answers token signed) (omega (arith, low)) needed
  content_needed (inl early) other low needed = go (nine fault.number early other)
    where
      go : (fault.number < 9) ⊎ (fault.number ≡ 9) → WasAsked text (caller_demands policy algs answers) now answers
      go (inl less) = needed_low text (caller_demands policy algs answers) now fault l answers less needed
      go (inr at) = needed_below text (caller_demands policy algs answers) now fault l token is answers (unknown at).0 (omega (arith, low)) needed

  pub content_done : IsEarlyOrSigned token (caller_demands policy algs answers).rules fault → (fault.number ≡ 10 → ⊥) → fault.number ≤ 13 → IsAskedNext text (caller_demands policy algs answers) now answers → ⊥
  content_done (inr signed) other low next = done_below text (caller_demands policy algs answers) now fault l answers (said_good answers (not_unsaid policy algs answers token signed)) (omega (arith, low)) next
  content_done (inl early) other low next = go (nine fault.number early other)
    where
      go : (fault.number < 9) ⊎ (fault.number ≡ 9) → ⊥
      go (inl less) = done_low text (caller_demands policy algs answers) now fault l answers less next
      go (inr at) = unknown_next answers (unknown at).1 at next
