-- Where a caller checks the signatures: what is asked for stays asked for, whatever is answered.
use Rattle.std.proofs.Common.{ℕ, ◌<◌, ◌≤◌, ◌⊎◌, inl, inr, List, Some, ap, subst, arith}
use Rattle.std.specs.Option.{option_map}
use Rattle.claim_tree.specs.Tree.{Text, Tree}
use Rattle.refusals.specs.Condition.{number_of}
use Rattle.refusals.specs.Passing.{Passes}
use Rattle.refusals.specs.declared.condition.Condition.{Condition}
use Rattle.refusals.specs.declared.fault.Place.{Place}
use Rattle.key_binding.specs.declared.caller.SignatureAnswer.{SignatureAnswer}
use Rattle.verifier_core.specs.Asking.{caller_demands, asked_rules, holder_answer, IsHolderAsked, AsksIssuer, AsksHolder, WasAsked}
use Rattle.verifier_core.specs.Verdict.{FailsFor, of_token}
use Rattle.verifier_core.specs.declared.asking.Answers.{Answers}
use Rattle.verifier_core.specs.declared.asking.Question.{Question}
use Rattle.verifier_core.specs.declared.policy.Policy.{Policy}
use Rattle.verifier_core.proofs.Answered.{IsOfSignature, policy_of, same_fails}
use Rattle.verifier_core.proofs.ByMeaning.{token_site}

-- no condition below 9 is one on what signatures are
not_of_signature : (c : Condition) → number_of c < 9 → IsOfSignature c → ⊥
not_of_signature Condition.IssuerKeyUnknown low is = omega (arith, low)
not_of_signature Condition.BadSignature low is = omega (arith, low)
not_of_signature Condition.HolderKeyUnknown low is = omega (arith, low)
not_of_signature Condition.BindingSignature low is = omega (arith, low)
not_of_signature _ low is = is

is_of_signature : (c : Condition) → IsOfSignature c ⊎ (IsOfSignature c → ⊥)
is_of_signature Condition.IssuerKeyUnknown = inl tt
is_of_signature Condition.BadSignature = inl tt
is_of_signature Condition.HolderKeyUnknown = inl tt
is_of_signature Condition.BindingSignature = inl tt
is_of_signature _ = inr (λ is. is)

below_9 : (n : ℕ) → (n < 9) ⊎ (9 ≤ n)
below_9 n = grind arith

below_27 : (n : ℕ) → (n < 27) ⊎ (27 ≤ n)
below_27 n = grind arith

module _ (text : List ℕ) (policy : Policy) (algs : List Text) (now : ℕ) where
  -- what fails a caller who said this
  abbrev Fails : Answers → Condition → Place → Type 0
  Fails answers = FailsFor text (caller_demands policy algs answers) now

  -- no answer bears upon the conditions below 9
  passes_9 : (before after : Answers) → Passes 9 (Fails before) → Passes 9 (Fails after)
  passes_9 before after passes c place h = go (below_9 (number_of c))
    where
      go : (number_of c < 9) ⊎ (9 ≤ number_of c) → 9 ≤ number_of c
      go (inl low) = passes c place (same_fails policy algs after before text now c place (not_of_signature c low) h)
      go (inr high) = high

  pub issuer_stays : (before : Answers) (question : Question) (answer : SignatureAnswer)
      → AsksIssuer text (caller_demands policy algs before) now before question
      → WasAsked text (caller_demands policy algs (Answers.Issuer answer)) now (Answers.Issuer answer)
  issuer_stays before question answer asks = (
    asks.token,
    record {
      is_token = asks.asked.is_token;
      passes = passes_9 before (Answers.Issuer answer) asks.asked.passes;
      signature = asks.asked.signature;
    },
  )

  module _ (answer : SignatureAnswer) where
    -- the issuer's signature is said to be good before and after
    issuer_same : (c : Condition) (place : Place) → IsOfSignature c → number_of c < 27 → Fails (Answers.Holder answer) c place → Fails (Answers.Issuer SignatureAnswer.Good) c place
    issuer_same Condition.IssuerKeyUnknown place is low h =
        let (token, is_token, fails) = token_site text policy algs now (Answers.Holder answer) Condition.IssuerKeyUnknown place (omega arith) (omega arith) h in
        of_token token is_token fails
    issuer_same Condition.BadSignature place is low h =
        let (token, is_token, fails) = token_site text policy algs now (Answers.Holder answer) Condition.BadSignature place (omega arith) (omega arith) h in
        of_token token is_token fails
    issuer_same Condition.HolderKeyUnknown place is low h = absurd (omega (arith, low))
    issuer_same Condition.BindingSignature place is low h = absurd (omega (arith, low))
    issuer_same _ place is low h = absurd is

    -- so no condition below 27 bears upon what is said of the holder's
    passes_27 : Passes 27 (Fails (Answers.Issuer SignatureAnswer.Good)) → Passes 27 (Fails (Answers.Holder answer))
    passes_27 passes c place h = go (below_27 (number_of c)) (is_of_signature c)
      where
        go : (number_of c < 27) ⊎ (27 ≤ number_of c) → IsOfSignature c ⊎ (IsOfSignature c → ⊥) → 27 ≤ number_of c
        go (inl low) (inl is) = passes c place (issuer_same c place is low h)
        go (inl low) (inr other) = passes c place (same_fails policy algs (Answers.Holder answer) (Answers.Issuer SignatureAnswer.Good) text now c place other h)
        go (inr high) of = high

    pub holder_stays : (before : Answers) (question : Question) (payload : Tree)
        → AsksHolder text (caller_demands policy algs before) now before question payload
        → WasAsked text (caller_demands policy algs (Answers.Holder answer)) now (Answers.Holder answer)
    holder_stays before question payload asks =
        let asked = subst (λ (a : Answers). IsHolderAsked text (caller_demands policy algs a) now asks.token asks.binding) asks.said asks.asked in
        let (binding, by, is) = policy_of algs (holder_answer (Answers.Issuer SignatureAnswer.Good)) policy.binding asked.rules asked.wanted in (
          asks.token,
          asks.binding,
          record {
            is_token = asked.is_token;
            passes = passes_27 asked.passes;
            header = λ place h. asked.header place (same_fails policy algs (Answers.Holder answer) (Answers.Issuer SignatureAnswer.Good) text now Condition.BindingHeader place (λ is. is) h);
            alg = λ place h. asked.alg place (same_fails policy algs (Answers.Holder answer) (Answers.Issuer SignatureAnswer.Good) text now Condition.BindingAlg place (λ is. is) h);
            rules = asked_rules algs (Some answer) binding;
            wanted = ap (option_map (asked_rules algs (Some answer))) by;
            sent = asked.sent;
            signature = asked.signature;
          },
        )
