-- Where what a caller says is truth, its verdict is that by the meaning of signatures.
use Rattle.std.proofs.Common.{◌≡◌, ◌↔◌, ℕ, ◌<◌, ◌≤◌, ◌⊎◌, ⊎_elim, List, Some, refl, sym, ap, subst, ◌∙◌, arith}
use Rattle.std.specs.Option.{option_map}
use Rattle.claim_tree.specs.Tree.{Text, Tree, Members}
use Rattle.compact_form.specs.Compact.{hashed}
use Rattle.refusals.specs.Condition.{number_of}
use Rattle.refusals.specs.Faults.{fault_at, failed_of}
use Rattle.refusals.specs.Lowest.{IsLowest, IsNoLater, NoneFails}
use Rattle.refusals.specs.Passing.{Passes}
use Rattle.refusals.proofs.Lowest.{holds_too, lowest_at, refuse_unplaced}
use Rattle.refusals.specs.declared.condition.Condition.{Condition}
use Rattle.refusals.specs.declared.fault.Fault.{Fault}
use Rattle.refusals.specs.declared.fault.Place.{Place}
use Rattle.refusals.specs.declared.fault.Place.TheVariants.{Nowhere}
use Rattle.compact_form.specs.declared.parts.JwtParts.{JwtParts}
use Rattle.json_form.specs.Token.{IsToken}
use Rattle.json_form.specs.declared.token.Token.{Token}
use Rattle.json_form.proofs.Tokens as tokens
use Rattle.hmac_sign.specs.Signatures.{Meaning}
use Rattle.b64url_text.proofs.Codes.{one_code}
use Rattle.key_binding.specs.BindingConditions.{IsBadBindingSignature}
use Rattle.key_binding.specs.Caller.{IsAnswered, IsNoSignature}
use Rattle.key_binding.specs.Judged.{judged, Holders}
use Rattle.key_binding.specs.declared.caller.SignatureAnswer.{SignatureAnswer}
use Rattle.marked_tree.specs.Marked.{Marked, strip}
use Rattle.verifier_core.specs.Asking.{caller_demands, asked_rules, saying, issuer_answer, holder_answer, IsAskedNext, IsHolderAsked, IsQuestion, IsAcceptedForAs}
use Rattle.verifier_core.specs.Meanings.{Meanings, IsGoodBy, IsSentWith, FailsUnder, IsAcceptedUnder, AreTrue, by_meaning, fault_by_meaning, HasOneVerdictUnder}
use Rattle.verifier_core.specs.Verdict.{FailsFor, TokenFails, Opens, of_file, of_missing, of_token, of_claims, of_holder}
use Rattle.verifier_core.specs.declared.asking.Answers.{Answers}
use Rattle.verifier_core.specs.declared.asking.Question.{Question}
use Rattle.verifier_core.specs.declared.policy.Policy.{Policy}
use Rattle.verifier_core.proofs.Answered.{IsOfSignature, policy_of, same_fails}
use Rattle.verifier_core.proofs.Asked.{file_numbers, passes_to, SaidGood, said_good}
use Rattle.verifier_core.proofs.ClaimSteps.{claim_numbers}
use Rattle.verifier_core.proofs.HeaderSaid.{header_read}
use Rattle.verifier_core.proofs.HolderAsked.{site, holders_are, bad_fails, told_unknown, unknown_header, unknown_alg}
use Rattle.verifier_core.proofs.OneVerdict.{Suits, kind_of, place_of, one_placed}
use Rattle.verifier_core.proofs.Verdicts.{holder_numbers, one_opening}

-- what fails a caller who said this
abbrev Told : List ℕ → Policy → List Text → ℕ → Answers → Condition → Place → Type 0
Told text policy algs now answers = FailsFor text (caller_demands policy algs answers) now

-- a condition has a number of at most 38
last : (c : Condition) → 39 ≤ number_of c → ⊥
last Condition.TooLong h = omega (arith, h)
last _ h = omega (arith, h)

-- a condition without a place
at_nowhere : (FailsSo : Condition → Place → Type 0) (c : Condition) (place : Place) → Passes (number_of c) FailsSo → place ≡ Nowhere → FailsSo c place → IsLowest FailsSo (fault_at c place)
at_nowhere FailsSo c place passes there h = refuse_unplaced FailsSo c (fault_at c place) (ap (fault_at c) there) passes (subst (FailsSo c) there h)

-- a condition on a token fails of a token that the text is
pub token_site : (text : List ℕ) (policy : Policy) (algs : List Text) (now : ℕ) (answers : Answers) (c : Condition) (place : Place) → 4 < number_of c → number_of c < 22
    → FailsFor text (caller_demands policy algs answers) now c place → (token : Token) × IsToken text token × TokenFails token (caller_demands policy algs answers).rules c place
token_site text policy algs now answers c place high low (of_file h) = let number = file_numbers text c place h in absurd (omega (arith, high, number))
token_site text policy algs now answers c place high low (of_missing t is h) = let number = ap number_of h.0 in absurd (omega (arith, high, number))
token_site text policy algs now answers c place high low (of_token t is h) = (t, is, h)
token_site text policy algs now answers c place high low (of_claims t marked is opens h) = let numbers = claim_numbers (strip marked) (caller_demands policy algs answers) now c place h in absurd (omega (arith, low, numbers.0))
token_site text policy algs now answers c place high low (of_holder t marked hash is opens has h) =
    let number = holder_numbers t.parts (strip marked) hash (caller_demands policy algs answers) now c place h in
    absurd (omega (arith, low, number))

module _ (by : Meanings) (text : List ℕ) (policy : Policy) (algs : List Text) (now : ℕ) where
  -- ---- the other conditions

  under_unsaid : (c : Condition) (place : Place) → (IsOfSignature c → ⊥) → FailsFor text (caller_demands policy algs Answers.Nothing) now c place → FailsUnder by text policy algs now c place
  under_unsaid Condition.IssuerKeyUnknown place other h = absurd (other tt)
  under_unsaid Condition.BadSignature place other h = absurd (other tt)
  under_unsaid Condition.HolderKeyUnknown place other h = absurd (other tt)
  under_unsaid Condition.BindingSignature place other h = absurd (other tt)
  under_unsaid _ place other h = h

  unsaid_under : (c : Condition) (place : Place) → (IsOfSignature c → ⊥) → FailsUnder by text policy algs now c place → FailsFor text (caller_demands policy algs Answers.Nothing) now c place
  unsaid_under Condition.IssuerKeyUnknown place other h = absurd (other tt)
  unsaid_under Condition.BadSignature place other h = absurd (other tt)
  unsaid_under Condition.HolderKeyUnknown place other h = absurd (other tt)
  unsaid_under Condition.BindingSignature place other h = absurd (other tt)
  unsaid_under _ place other h = h

  module _ (answers : Answers) where
    to_under : (c : Condition) (place : Place) → (IsOfSignature c → ⊥) → FailsFor text (caller_demands policy algs answers) now c place → FailsUnder by text policy algs now c place
    to_under c place other h = under_unsaid c place other (same_fails policy algs answers Answers.Nothing text now c place other h)

    of_under : (c : Condition) (place : Place) → (IsOfSignature c → ⊥) → FailsUnder by text policy algs now c place → FailsFor text (caller_demands policy algs answers) now c place
    of_under c place other h = same_fails policy algs Answers.Nothing answers text now c place other (unsaid_under c place other h)

  -- ---- a signature that is not said to be good

  not_good : (answers : Answers) → AreTrue by text answers → (IsAskedNext text (caller_demands policy algs answers) now answers → ⊥) → Passes 9 (FailsFor text (caller_demands policy algs answers) now)
      → (token : Token) → IsToken text token → (IsAnswered (saying policy.algs (issuer_answer answers)) SignatureAnswer.Good token.parts.signed.signature → ⊥) → IsGoodBy by.issuer token.parts.signed → ⊥
  not_good Answers.Nothing truth done passes token is bad good = done (token, record { is_token = is; passes = passes; signature = λ none. none good.0 good.1 })
  not_good (Answers.Issuer SignatureAnswer.Good) truth done passes token is bad good = bad ((λ none. none good.0 good.1), refl)
  not_good (Answers.Issuer SignatureAnswer.Bad) truth done passes token is bad good = truth.issuer SignatureAnswer.Bad refl token is good
  not_good (Answers.Issuer SignatureAnswer.Unknown) truth done passes token is bad good = truth.issuer SignatureAnswer.Unknown refl token is good
  not_good (Answers.Holder answer) truth done passes token is bad good = bad ((λ none. none good.0 good.1), refl)

  -- the same of the key binding token that is sent
  module _ (token : Token) (is : IsToken text token) (marked : Marked) (opens : Opens token marked) (binding : JwtParts) (sent : token.parts.binding ≡ Some binding) where
    sent_with : IsSentWith text (strip marked) binding
    sent_with = record { token = token; is_token = is; marked = marked; opens = opens; payload_is = refl; sent = sent }

    not_bound : (answers : Answers) → AreTrue by text answers → (IsAskedNext text (caller_demands policy algs answers) now answers → ⊥) → SaidGood answers
        → ((IsNoSignature binding.signature → ⊥) → IsHolderAsked text (caller_demands policy algs answers) now token binding)
        → (IsAnswered (saying algs (holder_answer answers)) SignatureAnswer.Good binding.signature → ⊥) → IsGoodBy (by.holder (strip marked)) binding → ⊥
    not_bound Answers.Nothing truth done said asked bad good = cc said
    not_bound (Answers.Issuer answer) truth done said asked bad good = done (token, binding, asked (λ none. none good.0 good.1))
    not_bound (Answers.Holder SignatureAnswer.Good) truth done said asked bad good = bad ((λ none. none good.0 good.1), refl)
    not_bound (Answers.Holder SignatureAnswer.Bad) truth done said asked bad good = truth.holder SignatureAnswer.Bad refl (strip marked) binding sent_with good
    not_bound (Answers.Holder SignatureAnswer.Unknown) truth done said asked bad good = truth.holder SignatureAnswer.Unknown refl (strip marked) binding sent_with good

  module _ (answers : Answers) (truth : AreTrue by text answers) where
    -- ---- from what was said to the meanings

    issuer_unknown : (place : Place) → Told text policy algs now answers Condition.IssuerKeyUnknown place → FailsUnder by text policy algs now Condition.BadSignature place
    issuer_unknown place h =
        let (token, is, fails) = token_site text policy algs now answers Condition.IssuerKeyUnknown place (omega arith) (omega arith) h in
        (fails.0, (token, is, truth.issuer SignatureAnswer.Unknown fails.1.2.1 token is))

    issuer_bad : (IsAskedNext text (caller_demands policy algs answers) now answers → ⊥) → Passes 9 (Told text policy algs now answers)
        → (place : Place) → Told text policy algs now answers Condition.BadSignature place → FailsUnder by text policy algs now Condition.BadSignature place
    issuer_bad done passes place h =
        let (token, is, fails) = token_site text policy algs now answers Condition.BadSignature place (omega arith) (omega arith) h in
        (fails.0, (token, is, not_good answers truth done passes token is fails.1.2))

    holder_unknown : (place : Place) → Told text policy algs now answers Condition.HolderKeyUnknown place → FailsUnder by text policy algs now Condition.BindingSignature place
    holder_unknown place h =
        let s = site text (caller_demands policy algs answers) now Condition.HolderKeyUnknown place (omega arith) h in
        let told = told_unknown text policy algs now answers place s in
        let (asked, asked_is, same) = policy_of algs (holder_answer answers) policy.binding s.fails.binding s.fails.asked in
        let sent = sent_with s.token s.is_token s.marked s.opens s.fails.token s.fails.sent in
        (s.fails.fails.0, (asked, asked_is, strip s.marked, s.fails.token, sent, truth.holder SignatureAnswer.Unknown told.1.1 (strip s.marked) s.fails.token sent))

    holder_bad : (IsAskedNext text (caller_demands policy algs answers) now answers → ⊥) → SaidGood answers → Passes 27 (Told text policy algs now answers)
        → ((place : Place) → Told text policy algs now answers Condition.BindingHeader place → ⊥) → ((place : Place) → Told text policy algs now answers Condition.BindingAlg place → ⊥)
        → (place : Place) → Told text policy algs now answers Condition.BindingSignature place → FailsUnder by text policy algs now Condition.BindingSignature place
    holder_bad done said passes header alg place h =
        let s = site text (caller_demands policy algs answers) now Condition.BindingSignature place (omega arith) h in
        let bad = subst (λ (x : Holders). IsBadBindingSignature x (judged s.fails.token (strip s.marked) s.fails.binding policy.skew s.hash (hashed s.token.parts) now)) (holders_are algs (holder_answer answers) policy.binding s.fails.binding s.fails.asked) s.fails.fails.1 in
        let (asked, asked_is, same) = policy_of algs (holder_answer answers) policy.binding s.fails.binding s.fails.asked in (
          s.fails.fails.0,
          (
            asked,
            asked_is,
            strip s.marked,
            s.fails.token,
            sent_with s.token s.is_token s.marked s.opens s.fails.token s.fails.sent,
            not_bound s.token s.is_token s.marked s.opens s.fails.token s.fails.sent answers truth done said
                (λ signature. record {
                  is_token = s.is_token;
                  passes = passes;
                  header = header;
                  alg = alg;
                  rules = s.fails.binding;
                  wanted = s.fails.asked;
                  sent = s.fails.sent;
                  signature = signature;
                })
                bad,
          ),
        )

    -- ---- from the meanings to what was said

    issuer_said : Passes 11 (Told text policy algs now answers) → (token : Token) → IsToken text token → SaidGood answers
    issuer_said passes token is = said_good answers (λ none.
        header_read token.parts.signed.protected token.outer
        (λ unread. let low = passes Condition.HeaderUnreadable Nowhere (of_token token is (refl, unread)) in omega (arith, low))
        (λ critical. let low = passes Condition.HeaderCritical Nowhere (of_token token is (refl, critical)) in omega (arith, low))
        (λ header reads. let low = passes Condition.BadSignature Nowhere (of_token token is (refl, (header, reads, λ answered. none answered.1))) in omega (arith, low)))

    issuer_good : Passes 11 (Told text policy algs now answers) → (place : Place) → FailsUnder by text policy algs now Condition.BadSignature place → ⊥
    issuer_good passes place (there, (token, is, bad)) = bad (truth.issuer SignatureAnswer.Good (issuer_said passes token is) token is)

    holder_good : Passes 31 (Told text policy algs now answers) → (place : Place) → FailsUnder by text policy algs now Condition.BindingSignature place → ⊥
    holder_good passes place (there, (asked, asked_is, payload, binding, sent, bad)) =
        let low = passes Condition.BindingSignature Nowhere (bad_fails text policy algs now answers sent.token sent.is_token sent.marked sent.opens
        (asked_rules algs (holder_answer answers) asked) (ap (option_map (asked_rules algs (holder_answer answers))) asked_is) binding sent.sent
        (λ answered. bad (truth.holder SignatureAnswer.Good answered.1 payload binding sent))) in
        omega (arith, low)

    passes_more : (n k : ℕ) → k ≤ n → Passes n (Told text policy algs now answers) → Passes k (Told text policy algs now answers)
    passes_more n k low passes c place h = let high = passes c place h in omega (arith, low, high)

    to_or_over : (n k : ℕ) → (n ≤ k) ⊎ (k < n)
    to_or_over n k = grind arith

    -- where none below fails of what was said, none below fails by the meanings
    passes_under : (n : ℕ) → Passes n (Told text policy algs now answers) → Passes n (FailsUnder by text policy algs now)
    passes_under n passes Condition.IssuerKeyUnknown place h = absurd h
    passes_under n passes Condition.BadSignature place h = ⊎_elim (λ low. low) (λ high. absurd (issuer_good (passes_more n 11 high passes) place h)) (to_or_over n 10)
    passes_under n passes Condition.HolderKeyUnknown place h = absurd h
    passes_under n passes Condition.BindingSignature place h = ⊎_elim (λ low. low) (λ high. absurd (holder_good (passes_more n 31 high passes) place h)) (to_or_over n 30)
    passes_under n passes c place h = passes c place (of_under answers c place (λ none. none) h)

    -- ---- what is refused

    -- the lowest that fails of what was said, at its least place
    module _ (done : IsAskedNext text (caller_demands policy algs answers) now answers → ⊥) where
      to_bad : (place : Place) → Passes 10 (Told text policy algs now answers) → Told text policy algs now answers Condition.BadSignature place → FailsUnder by text policy algs now Condition.BadSignature place
      to_bad place passes h = issuer_bad done (passes_more 10 9 (omega arith) passes) place h

      to_bad_binding : (place : Place) → Passes 30 (Told text policy algs now answers) → Told text policy algs now answers Condition.BindingSignature place → FailsUnder by text policy algs now Condition.BindingSignature place
      to_bad_binding place passes h =
          let s = site text (caller_demands policy algs answers) now Condition.BindingSignature place (omega arith) h in
          holder_bad done (issuer_said (passes_more 30 11 (omega arith) passes) s.token s.is_token) (passes_more 30 27 (omega arith) passes)
          (λ p w. let low = passes Condition.BindingHeader p w in omega (arith, low))
          (λ p w. let low = passes Condition.BindingAlg p w in omega (arith, low))
          place h

      -- no condition from 27 to 29 fails by the meanings where the caller does not know the holder's key
      past_unknown : (place : Place) → Passes 27 (Told text policy algs now answers) → Told text policy algs now answers Condition.HolderKeyUnknown place → Passes 30 (FailsUnder by text policy algs now)
      past_unknown place passes h =
          let s = site text (caller_demands policy algs answers) now Condition.HolderKeyUnknown place (omega arith) h in
          let unknown = holds_too (FailsUnder by text policy algs now) Condition.HolderKeyUnknown (passes_under 27 passes) (λ p none. none) in
          let header = holds_too (FailsUnder by text policy algs now) Condition.BindingHeader unknown (λ p w. unknown_header text policy algs now answers place s p (of_under answers Condition.BindingHeader p (λ none. none) w)) in
          holds_too (FailsUnder by text policy algs now) Condition.BindingAlg header (λ p w. unknown_alg text policy algs now answers place s p (of_under answers Condition.BindingAlg p (λ none. none) w))

      least_under : (c : Condition) (place : Place) → Told text policy algs now answers c place → Passes (number_of c) (Told text policy algs now answers)
          → ((p : Place) → Told text policy algs now answers c p → IsNoLater place p) → IsLowest (FailsUnder by text policy algs now) (fault_at (by_meaning c) place)
      least_under Condition.IssuerKeyUnknown place h passes least =
          let bad = issuer_unknown place h in
          at_nowhere (FailsUnder by text policy algs now) Condition.BadSignature place (holds_too (FailsUnder by text policy algs now) Condition.IssuerKeyUnknown (passes_under 9 passes) (λ p none. none)) bad.0 bad
      least_under Condition.BadSignature place h passes least =
          let bad = to_bad place passes h in
          at_nowhere (FailsUnder by text policy algs now) Condition.BadSignature place (passes_under 10 passes) bad.0 bad
      least_under Condition.HolderKeyUnknown place h passes least =
          let bad = holder_unknown place h in
          at_nowhere (FailsUnder by text policy algs now) Condition.BindingSignature place (past_unknown place passes h) bad.0 bad
      least_under Condition.BindingSignature place h passes least =
          let bad = to_bad_binding place passes h in
          at_nowhere (FailsUnder by text policy algs now) Condition.BindingSignature place (passes_under 30 passes) bad.0 bad
      least_under c place h passes least =
          lowest_at (FailsUnder by text policy algs now) (fault_at c place) (passes_under (number_of c) passes) (to_under answers c place (λ none. none) h) (λ p under. least p (of_under answers c p (λ none. none) under))

      pub lowest_under : (fault : Fault) → IsLowest (Told text policy algs now answers) fault → IsLowest (FailsUnder by text policy algs now) (fault_by_meaning fault)
      lowest_under fault l =
          least_under (failed_of fault) fault.place l.fails
          (passes_to text (caller_demands policy algs answers) now fault l (number_of (failed_of fault)) (omega (arith, fault.of_condition.1)))
          (λ p h. ⊎_elim (λ less. absurd (omega (arith, less, fault.of_condition.1))) (λ same. same.1) (l.lowest (failed_of fault) p h))

      -- ---- where no condition fails

      to_9 : NoneFails (FailsUnder by text policy algs now) → Passes 9 (Told text policy algs now answers)
      to_9 none Condition.IssuerKeyUnknown place h = omega arith
      to_9 none Condition.BadSignature place h = omega arith
      to_9 none Condition.HolderKeyUnknown place h = omega arith
      to_9 none Condition.BindingSignature place h = omega arith
      to_9 none c place h = absurd (none c place (to_under answers c place (λ no. no) h))

      to_27 : NoneFails (FailsUnder by text policy algs now) → Passes 27 (Told text policy algs now answers)
      to_27 none Condition.IssuerKeyUnknown place h = absurd (none Condition.BadSignature place (issuer_unknown place h))
      to_27 none Condition.BadSignature place h = absurd (none Condition.BadSignature place (issuer_bad done (to_9 none) place h))
      to_27 none Condition.HolderKeyUnknown place h = omega arith
      to_27 none Condition.BindingSignature place h = omega arith
      to_27 none c place h = absurd (none c place (to_under answers c place (λ no. no) h))

      none_told : NoneFails (FailsUnder by text policy algs now) → NoneFails (Told text policy algs now answers)
      none_told none Condition.IssuerKeyUnknown place h = none Condition.BadSignature place (issuer_unknown place h)
      none_told none Condition.BadSignature place h = none Condition.BadSignature place (issuer_bad done (to_9 none) place h)
      none_told none Condition.HolderKeyUnknown place h = none Condition.BindingSignature place (holder_unknown place h)
      none_told none Condition.BindingSignature place h =
          let s = site text (caller_demands policy algs answers) now Condition.BindingSignature place (omega arith) h in
          none Condition.BindingSignature place
          (holder_bad done (issuer_said (passes_more 27 11 (omega arith) (to_27 none)) s.token s.is_token) (to_27 none)
          (λ p w. none Condition.BindingHeader p (to_under answers Condition.BindingHeader p (λ no. no) w))
          (λ p w. none Condition.BindingAlg p (to_under answers Condition.BindingAlg p (λ no. no) w))
          place h)
      none_told none c place h = none c place (to_under answers c place (λ no. no) h)

      none_under : NoneFails (Told text policy algs now answers) → NoneFails (FailsUnder by text policy algs now)
      none_under none c place h = last c (passes_under 39 (λ d p f. absurd (none d p f)) c place h)

      pub one_acceptance : (payload : Tree) → IsAcceptedForAs text (caller_demands policy algs answers) now payload ↔ IsAcceptedUnder by text policy algs now payload
      one_acceptance payload = (
        (λ (marked, accepted, is). record {
          passes = none_under accepted.passes;
          token = accepted.token;
          is_token = accepted.is_token;
          marked = marked;
          opens = accepted.opens;
          payload_is = is;
        }),
        (λ accepted. (
          accepted.marked,
          record { passes = none_told accepted.passes; token = accepted.token; is_token = accepted.is_token; opens = accepted.opens },
          accepted.payload_is,
        )),
      )

  -- ---- one verdict

  under_place : (c : Condition) (place : Place) → FailsUnder by text policy algs now c place → Suits text (kind_of c) place
  under_place Condition.IssuerKeyUnknown place h = absurd h
  under_place Condition.BadSignature place h = h.0
  under_place Condition.HolderKeyUnknown place h = absurd h
  under_place Condition.BindingSignature place h = h.0
  under_place c place h = place_of text (caller_demands policy algs Answers.Nothing) now c place h

  pub one_verdict : HasOneVerdictUnder by text policy algs now
  one_verdict = record {
    not_both = λ payload fault accepted refused. accepted.passes (failed_of fault) fault.place refused.fails;
    one_payload = λ payload other a b.
        let same : a.token ≡ b.token = tokens.one text a.token b.token a.is_token b.is_token in
        let one = one_opening b.token a.marked b.marked (subst (λ (t : Token). Opens t a.marked) same a.opens) b.opens in
        a.payload_is ∙ (ap strip one ∙ sym b.payload_is);
    one_fault = one_placed text (FailsUnder by text policy algs now) under_place;
  }

-- what is said of the signature in a question is said of the JWT
pub answered : (good : Meaning) (signed : JwtParts) (outer : Members) (question : Question) → IsQuestion signed outer question → IsGoodBy good signed ↔ good signed.protected signed.payload question.signature
answered good signed outer question is = (
  (λ (signature, decodes, h). subst (good signed.protected signed.payload) (one_code signed.signature signature question.signature decodes is.signature) h),
  (λ h. (question.signature, is.signature, h)),
)
