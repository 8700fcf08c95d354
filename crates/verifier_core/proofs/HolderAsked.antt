-- Where a caller checks the signatures: when the holder's was to be known, and when it is next.
use Rattle.std.proofs.Common.{◌≡◌, ℕ, ◌<◌, ◌≤◌, ◌⊎◌, inl, inr, List, Option, Some, None, refl, sym, ap, subst, ◌∙◌, arith}
use Rattle.std.specs.Option.{option_map}
use Rattle.b64url_text.specs.NotBase64.{IsNotBase64}
use Rattle.claim_tree.specs.Tree.{Text, no_members}
use Rattle.compact_form.specs.Compact.{hashed}
use Rattle.refusals.specs.Condition.{number_of}
use Rattle.refusals.specs.Faults.{failed_of}
use Rattle.refusals.specs.Lowest.{IsLowest, NoneFails}
use Rattle.refusals.specs.Passing.{Passes}
use Rattle.refusals.proofs.Lowest.{below_or_at}
use Rattle.refusals.specs.declared.condition.Condition.{Condition}
use Rattle.refusals.specs.declared.fault.Fault.{Fault}
use Rattle.refusals.specs.declared.fault.Place.{Place}
use Rattle.refusals.specs.declared.fault.Place.TheVariants.{Nowhere}
use Rattle.compact_form.specs.declared.parts.JwtParts.{JwtParts}
use Rattle.disclosure.specs.declared.digests.HashAlg.{HashAlg}
use Rattle.json_form.specs.Token.{IsToken}
use Rattle.json_form.specs.declared.token.Token.{Token}
use Rattle.jws_part.specs.Header.{IsHeaderUnreadable, IsHeaderCritical}
use Rattle.jws_part.specs.declared.header.Header.{Header}
use Rattle.jws_part.proofs.Headers as headers
use Rattle.key_binding.specs.BindingConditions.{BindingFails, IsHolderUnknown, IsHolderAlgRefused, IsBadBindingSignature, IsAskedOf}
use Rattle.key_binding.specs.Caller.{IsAnswered, IsAlgUntaken, IsUnknownTo}
use Rattle.key_binding.specs.Judged.{judged, Holders, of_caller, BindingRules, HasBindingHeader}
use Rattle.key_binding.specs.declared.caller.SignatureAnswer.{SignatureAnswer}
use Rattle.key_binding.specs.declared.policy.BindingPolicy.{BindingPolicy}
use Rattle.marked_tree.specs.Marked.{Marked, strip}
use Rattle.verifier_core.specs.Asking.{caller_demands, asked_rules, saying, holder_answer, WasAsked, IsAskedNext, IsHolderAsked, IsNeededAt}
use Rattle.verifier_core.specs.Verdict.{Demands, FailsFor, of_file, of_missing, of_token, of_claims, of_holder, HolderFails, HasHash, Opens}
use Rattle.verifier_core.specs.declared.asking.Answers.{Answers}
use Rattle.verifier_core.specs.declared.policy.Policy.{Policy}
use Rattle.verifier_core.proofs.Asked.{passes_to, passed, none_at, fails_at, file_numbers, one_read, SaidGood, issuer_asked}
use Rattle.verifier_core.proofs.ClaimSteps.{claim_numbers}
use Rattle.verifier_core.proofs.TokenConditions.{token_numbers}

-- ---- a condition on the key binding token

-- what it fails of: the token, opened, and the key binding token that is sent
pub record Site (text : List ℕ) (demands : Demands) (now : ℕ) (c : Condition) (place : Place) : Type 0 where
  pub token : Token
  pub is_token : IsToken text token
  pub marked : Marked
  pub opens : Opens token marked
  pub hash : HashAlg
  pub fails : HolderFails token.parts (strip marked) hash demands now c place

pub site : (text : List ℕ) (demands : Demands) (now : ℕ) (c : Condition) (place : Place) → 26 < number_of c → FailsFor text demands now c place → Site text demands now c place
site text demands now c place high (of_file h) = let number = file_numbers text c place h in absurd (omega (arith, high, number))
site text demands now c place high (of_missing t there h) = let number = ap number_of h.0 in absurd (omega (arith, high, number))
site text demands now c place high (of_token t there h) = let numbers = token_numbers t demands.rules c place h in absurd (omega (arith, high, numbers.1))
site text demands now c place high (of_claims t marked there opens h) = let numbers = claim_numbers (strip marked) demands now c place h in absurd (omega (arith, high, numbers.1))
site text demands now c place high (of_holder t marked hash there opens has h) = record { token = t; is_token = there; marked = marked; opens = opens; hash = hash; fails = h }

-- the hash of a token that is opened
opened_hash : (token : Token) (marked : Marked) → Opens token marked → (hash : HashAlg) × HasHash token hash
opened_hash token marked (payload, given, has, is) = (has.hash, (has.body, has.is_body, has.hash_is))

-- the one that is sent is one
one_sent : (token : Token) (one other : JwtParts) (P : JwtParts → Type 0) → token.parts.binding ≡ Some one → token.parts.binding ≡ Some other → P other → P one
one_sent token one other P sent also h = let both : Some other ≡ Some one = sym also ∙ sent in let same : other ≡ one = cc both in subst P same h

-- the holder is whom the caller says
pub holders_are : (algs : List Text) (answer : Option SignatureAnswer) (policy : Option BindingPolicy) (rules : BindingRules) → option_map (asked_rules algs answer) policy ≡ Some rules → rules.holders ≡ of_caller (saying algs answer)
holders_are algs answer None rules e = cc e
holders_are algs answer (Some policy) rules e = let same : asked_rules algs answer policy ≡ rules = cc e in ap (λ (x : BindingRules). x.holders) (sym same)

module _ (text : List ℕ) (policy : Policy) (algs : List Text) (now : ℕ) (answers : Answers) where
  module _ (token : Token) (is : IsToken text token) (marked : Marked) (opens : Opens token marked) (rules : BindingRules) (wanted : (caller_demands policy algs answers).binding ≡ Some rules) (binding : JwtParts) (sent : token.parts.binding ≡ Some binding) where
    binding_fails : (c : Condition) (place : Place)
        → BindingFails (judged binding (strip marked) rules policy.skew (opened_hash token marked opens).0 (hashed token.parts) now) c place → FailsFor text (caller_demands policy algs answers) now c place
    binding_fails c place h =
        of_holder token marked (opened_hash token marked opens).0 is opens (opened_hash token marked opens).1 (record { binding = rules; asked = wanted; token = binding; sent = sent; fails = h })

    -- the signature is not good where it was not said to be so
    pub bad_fails : (IsAnswered (saying algs (holder_answer answers)) SignatureAnswer.Good binding.signature → ⊥) → FailsFor text (caller_demands policy algs answers) now Condition.BindingSignature Nowhere
    bad_fails bad =
        binding_fails Condition.BindingSignature Nowhere
        (refl, subst (λ (x : Holders). IsBadBindingSignature x (judged binding (strip marked) rules policy.skew (opened_hash token marked opens).0 (hashed token.parts) now)) (sym (holders_are algs (holder_answer answers) policy.binding rules wanted)) bad)

    pub header_fails : IsHeaderUnreadable binding.protected no_members ⊎ IsHeaderCritical binding.protected no_members → FailsFor text (caller_demands policy algs answers) now Condition.BindingHeader Nowhere
    header_fails w = binding_fails Condition.BindingHeader Nowhere (refl, w)

  -- where the caller does not know the key: the header is read and names an algorithm that is taken
  module _ (at : Place) (s : Site text (caller_demands policy algs answers) now Condition.HolderKeyUnknown at) where
    pub told_unknown : IsAskedOf (saying algs (holder_answer answers)) (judged s.fails.token (strip s.marked) s.fails.binding policy.skew s.hash (hashed s.token.parts) now) × IsUnknownTo (saying algs (holder_answer answers)) s.fails.token.signature
    told_unknown =
        subst (λ (x : Holders). IsHolderUnknown x (judged s.fails.token (strip s.marked) s.fails.binding policy.skew s.hash (hashed s.token.parts) now)) (holders_are algs (holder_answer answers) policy.binding s.fails.binding s.fails.asked) s.fails.fails.1

    -- another token that is sent is the same
    sent_here : (P : JwtParts → Type 0) (other : Token) (sent : JwtParts) → IsToken text other → other.parts.binding ≡ Some sent → P sent → P s.fails.token
    sent_here P other sent there is h =
        one_sent s.token s.fails.token sent P s.fails.sent (one_read text s.token other (λ (x : Token). x.parts.binding ≡ Some sent) s.is_token there is) h

    read_not : (j : JwtParts) → (IsHeaderUnreadable j.protected no_members ⊎ IsHeaderCritical j.protected no_members) → (h : Header) → HasBindingHeader j h → ⊥
    read_not j (inl w) h has = headers.read_not_unreadable j.protected no_members h has w
    read_not j (inr w) h has = headers.read_not_critical j.protected no_members h has w

    pub unknown_header : (place : Place) → FailsFor text (caller_demands policy algs answers) now Condition.BindingHeader place → ⊥
    unknown_header place h =
        let o = site text (caller_demands policy algs answers) now Condition.BindingHeader place (omega arith) h in
        let w = sent_here (λ (x : JwtParts). IsHeaderUnreadable x.protected no_members ⊎ IsHeaderCritical x.protected no_members) o.token o.fails.token o.is_token o.fails.sent o.fails.fails.1 in
        read_not s.fails.token w told_unknown.0.0 told_unknown.0.1

    pub unknown_alg : (place : Place) → FailsFor text (caller_demands policy algs answers) now Condition.BindingAlg place → ⊥
    unknown_alg place h =
        let o = site text (caller_demands policy algs answers) now Condition.BindingAlg place (omega arith) h in
        let of_header = o.fails.fails.1 in
        let has = sent_here (λ (x : JwtParts). HasBindingHeader x of_header.0) o.token o.fails.token o.is_token o.fails.sent of_header.1 in
        let same : of_header.0 ≡ told_unknown.0.0 = headers.one_header s.fails.token.protected no_members of_header.0 told_unknown.0.0 has told_unknown.0.1 in
        let refused = subst (λ (x : Holders). IsHolderAlgRefused x of_header.0.alg) (holders_are algs (holder_answer answers) policy.binding o.fails.binding o.fails.asked) of_header.2 in
        told_unknown.0.2 (subst (λ (x : Header). IsAlgUntaken (saying algs (holder_answer answers)) x.alg) same refused)

  -- ---- where a condition is the lowest

  module _ (fault : Fault) (l : IsLowest (FailsFor text (caller_demands policy algs answers) now) fault) where
    here : 26 < fault.number → Site text (caller_demands policy algs answers) now (failed_of fault) fault.place
    here high = site text (caller_demands policy algs answers) now (failed_of fault) fault.place (omega (arith, high, fault.of_condition.1)) l.fails

    -- what was to be known where a higher condition is the lowest: of the signature of the token that is sent
    asked_by : 30 ≤ fault.number → (s : Site text (caller_demands policy algs answers) now (failed_of fault) fault.place) → (IsNotBase64 s.fails.token.signature → ⊥) → IsHolderAsked text (caller_demands policy algs answers) now s.token s.fails.token
    asked_by high s signature = record {
      is_token = s.is_token;
      passes = passes_to text (caller_demands policy algs answers) now fault l 27 (omega (arith, high));
      header = none_at text (caller_demands policy algs answers) now fault l Condition.BindingHeader (omega (arith, high));
      alg = none_at text (caller_demands policy algs answers) now fault l Condition.BindingAlg (omega (arith, high));
      rules = s.fails.binding;
      wanted = s.fails.asked;
      sent = s.fails.sent;
      signature = signature;
    }

    -- where the signature is good
    asked_after : 30 < fault.number → (s : Site text (caller_demands policy algs answers) now (failed_of fault) fault.place) → IsHolderAsked text (caller_demands policy algs answers) now s.token s.fails.token
    asked_after high s =
        asked_by (omega (arith, high)) s
        (λ none. none_at text (caller_demands policy algs answers) now fault l Condition.BindingSignature (omega (arith, high)) Nowhere
        (bad_fails s.token s.is_token s.marked s.opens s.fails.binding s.fails.asked s.fails.token s.fails.sent (λ answered. answered.0 none)))

    module _ (at : fault.number ≡ 30) (token : Token) (is : IsToken text token) where
      -- where the signature is not good, it was to be known, if its text is that of some bytes
      pub asked_bad : (binding : JwtParts) → token.parts.binding ≡ Some binding → (IsNotBase64 binding.signature → ⊥) → IsHolderAsked text (caller_demands policy algs answers) now token binding
      asked_bad binding sent signature =
          let s = here (omega (arith, at)) in
          record {
            is_token = is;
            passes = passes_to text (caller_demands policy algs answers) now fault l 27 (omega (arith, at));
            header = none_at text (caller_demands policy algs answers) now fault l Condition.BindingHeader (omega (arith, at));
            alg = none_at text (caller_demands policy algs answers) now fault l Condition.BindingAlg (omega (arith, at));
            rules = s.fails.binding;
            wanted = s.fails.asked;
            sent = sent;
            signature = signature;
          }

      pub unbound : (binding : JwtParts) → token.parts.binding ≡ Some binding → IsNotBase64 binding.signature → (t : Token) (other : JwtParts) → IsHolderAsked text (caller_demands policy algs answers) now t other → ⊥
      unbound binding sent none t other asked =
          let also = one_read text token t (λ (x : Token). x.parts.binding ≡ Some other) is asked.is_token asked.sent in
          one_sent token binding other (λ (x : JwtParts). IsNotBase64 x.signature → ⊥) sent also asked.signature none

      pub binding_sent : token.parts.binding ≡ None → ⊥
      binding_sent none =
          let s = here (omega (arith, at)) in
          let sent = one_read text token s.token (λ (x : Token). x.parts.binding ≡ Some s.fails.token) is s.is_token s.fails.sent in
          let both : Some s.fails.token ≡ None = sym sent ∙ none in
          cc both

      pub binding_read : (marked : Marked) → Opens token marked → (binding : JwtParts) → token.parts.binding ≡ Some binding → IsHeaderUnreadable binding.protected no_members ⊎ IsHeaderCritical binding.protected no_members → ⊥
      binding_read marked opens binding sent w =
          let s = here (omega (arith, at)) in
          none_at text (caller_demands policy algs answers) now fault l Condition.BindingHeader (omega (arith, at)) Nowhere (header_fails token is marked opens s.fails.binding s.fails.asked binding sent w)

    -- where the caller does not know the key, it was asked
    at_27 : fault.number ≡ 27 → Site text (caller_demands policy algs answers) now Condition.HolderKeyUnknown fault.place
    at_27 at = site text (caller_demands policy algs answers) now Condition.HolderKeyUnknown fault.place (omega arith) (fails_at text (caller_demands policy algs answers) now fault l Condition.HolderKeyUnknown at)

    asked_unknown : (at : fault.number ≡ 27) → IsHolderAsked text (caller_demands policy algs answers) now (at_27 at).token (at_27 at).fails.token
    asked_unknown at = record {
      is_token = (at_27 at).is_token;
      passes = passes_to text (caller_demands policy algs answers) now fault l 27 (omega (arith, at));
      header = unknown_header fault.place (at_27 at);
      alg = unknown_alg fault.place (at_27 at);
      rules = (at_27 at).fails.binding;
      wanted = (at_27 at).fails.asked;
      sent = (at_27 at).fails.sent;
      signature = (told_unknown fault.place (at_27 at)).1.0;
    }

    -- ---- what was to be known, and is next

    module _ (token : Token) (is : IsToken text token) (signature : IsNotBase64 token.parts.signed.signature → ⊥) where
      -- where the caller was asked for all that it answered
      pub shown_needed : (fault.number ≡ 30 → ⊥) → IsNeededAt answers fault.number → WasAsked text (caller_demands policy algs answers) now answers
      shown_needed other needed = go answers needed
        where
          after : (30 < fault.number) ⊎ (30 ≡ fault.number) → (t : Token) × (binding : JwtParts) × IsHolderAsked text (caller_demands policy algs answers) now t binding
          after (inl more) = let s = here (omega (arith, more)) in (s.token, s.fails.token, asked_after more s)
          after (inr at) = absurd (other (sym at))

          go : (a : Answers) → IsNeededAt a fault.number → WasAsked text (caller_demands policy algs answers) now a
          go Answers.Nothing n = tt
          go (Answers.Issuer answer) n = (token, issuer_asked text (caller_demands policy algs answers) now fault l token is n signature)
          go (Answers.Holder answer) (inl at) = ((at_27 at).token, (at_27 at).fails.token, asked_unknown at)
          go (Answers.Holder answer) (inr high) = after (below_or_at 30 fault.number high)

    -- nothing was said of the holder's signature
    module _ (unsaid : holder_answer answers ≡ None) (t : Token) (binding : JwtParts) (asked : IsHolderAsked text (caller_demands policy algs answers) now t binding) where
      not_27 : fault.number ≡ 27 → ⊥
      not_27 at = let both : Some SignatureAnswer.Unknown ≡ None = sym (told_unknown fault.place (at_27 at)).1.1 ∙ unsaid in cc both

      not_28 : fault.number ≡ 28 → ⊥
      not_28 at = asked.header fault.place (fails_at text (caller_demands policy algs answers) now fault l Condition.BindingHeader at)

      not_29 : fault.number ≡ 29 → ⊥
      not_29 at = asked.alg fault.place (fails_at text (caller_demands policy algs answers) now fault l Condition.BindingAlg at)

      -- so it fails, and no higher condition is the lowest
      not_after : 30 < fault.number → ⊥
      not_after high =
          let s = here (omega (arith, high)) in
          none_at text (caller_demands policy algs answers) now fault l Condition.BindingSignature (omega (arith, high)) Nowhere
          (bad_fails s.token s.is_token s.marked s.opens s.fails.binding s.fails.asked s.fails.token s.fails.sent
          (λ answered. let both : Some SignatureAnswer.Good ≡ None = sym answered.1 ∙ unsaid in cc both))

      pub none_next : (fault.number ≡ 30 → ⊥) → ⊥
      none_next other = at_27_or (below_or_at 27 fault.number (passed text (caller_demands policy algs answers) now fault l 27 asked.passes))
        where
          at_30_or : (30 < fault.number) ⊎ (30 ≡ fault.number) → ⊥
          at_30_or (inl more) = not_after more
          at_30_or (inr at) = other (sym at)

          at_29_or : (29 < fault.number) ⊎ (29 ≡ fault.number) → ⊥
          at_29_or (inl more) = at_30_or (below_or_at 30 fault.number more)
          at_29_or (inr at) = not_29 (sym at)

          at_28_or : (28 < fault.number) ⊎ (28 ≡ fault.number) → ⊥
          at_28_or (inl more) = at_29_or (below_or_at 29 fault.number more)
          at_28_or (inr at) = not_28 (sym at)

          at_27_or : (27 < fault.number) ⊎ (27 ≡ fault.number) → ⊥
          at_27_or (inl more) = at_28_or (below_or_at 28 fault.number more)
          at_27_or (inr at) = not_27 (sym at)

    -- nothing more is to be known where it is not the holder's signature that is not good
    pub shown_done : SaidGood answers → (fault.number ≡ 30 → ⊥) → IsAskedNext text (caller_demands policy algs answers) now answers → ⊥
    shown_done said other next = go answers refl said next
      where
        go : (a : Answers) → answers ≡ a → SaidGood a → IsAskedNext text (caller_demands policy algs answers) now a → ⊥
        go Answers.Nothing same good asked = cc good
        go (Answers.Issuer answer) same good (t, binding, asked) = none_next (ap holder_answer same) t binding asked other
        go (Answers.Holder answer) same good asked = asked

-- ---- where no condition fails

module _ (text : List ℕ) (policy : Policy) (algs : List Text) (now : ℕ) (answers : Answers) (passes : NoneFails (FailsFor text (caller_demands policy algs answers) now))
    (token : Token) (is : IsToken text token) (marked : Marked) (opens : Opens token marked) (signature : IsNotBase64 token.parts.signed.signature → ⊥) where
  none_to : (n : ℕ) → Passes n (FailsFor text (caller_demands policy algs answers) now)
  none_to n c place h = absurd (passes c place h)

  -- the key binding token that is asked for is there
  sent_with : (rules : BindingRules) → (caller_demands policy algs answers).binding ≡ Some rules → (sent : Option JwtParts) → token.parts.binding ≡ sent → (binding : JwtParts) × (token.parts.binding ≡ Some binding)
  sent_with rules wanted None e = absurd (passes Condition.BindingMissing Nowhere (of_missing token is (refl, (refl, (rules, wanted, e)))))
  sent_with rules wanted (Some binding) e = (binding, e)

  asked_all : (rules : BindingRules) → (caller_demands policy algs answers).binding ≡ Some rules → (t : Token) × (binding : JwtParts) × IsHolderAsked text (caller_demands policy algs answers) now t binding
  asked_all rules wanted =
      let (binding, sent) = sent_with rules wanted token.parts.binding refl in (
        token,
        binding,
        record {
          is_token = is;
          passes = none_to 27;
          header = λ place h. passes Condition.BindingHeader place h;
          alg = λ place h. passes Condition.BindingAlg place h;
          rules = rules;
          wanted = wanted;
          sent = sent;
          signature = λ none. passes Condition.BindingSignature Nowhere (bad_fails text policy algs now answers token is marked opens rules wanted binding sent (λ answered. answered.0 none));
        },
      )

  -- all that was said was to be known, where a key binding token is asked for or nothing was said of one
  pub accepted_needed : ((answer : SignatureAnswer) → answers ≡ Answers.Holder answer → policy.binding ≡ None → ⊥) → WasAsked text (caller_demands policy algs answers) now answers
  accepted_needed wanted = go answers refl
    where
      by_policy : (o : Option BindingPolicy) → policy.binding ≡ o → (o ≡ None → ⊥) → (t : Token) × (binding : JwtParts) × IsHolderAsked text (caller_demands policy algs answers) now t binding
      by_policy None e some = absurd (some refl)
      by_policy (Some b) e some = asked_all (asked_rules algs (holder_answer answers) b) (ap (option_map (asked_rules algs (holder_answer answers))) e)

      go : (a : Answers) → answers ≡ a → WasAsked text (caller_demands policy algs answers) now a
      go Answers.Nothing same = tt
      go (Answers.Issuer answer) same = (token, record { is_token = is; passes = none_to 9; signature = signature })
      go (Answers.Holder answer) same = by_policy policy.binding refl (wanted answer same)

  pub accepted_done : SaidGood answers → IsAskedNext text (caller_demands policy algs answers) now answers → ⊥
  accepted_done said next = go answers refl said next
    where
      go : (a : Answers) → answers ≡ a → SaidGood a → IsAskedNext text (caller_demands policy algs answers) now a → ⊥
      go Answers.Nothing same good asked = cc good
      go (Answers.Issuer answer) same good (t, binding, asked) =
          let sent = one_read text token t (λ (x : Token). x.parts.binding ≡ Some binding) is asked.is_token asked.sent in
          passes Condition.BindingSignature Nowhere
          (bad_fails text policy algs now answers token is marked opens asked.rules asked.wanted binding sent
          (λ answered. let both : Some SignatureAnswer.Good ≡ None = sym answered.1 ∙ ap holder_answer same in cc both))
      go (Answers.Holder answer) same good asked = asked

  -- nothing was to be known of a key binding token where none is asked for
  pub unwanted : policy.binding ≡ None → (answer : SignatureAnswer) → WasAsked text (caller_demands policy algs answers) now (Answers.Holder answer) → ⊥
  unwanted none answer (t, binding, asked) =
      let both : Some asked.rules ≡ None = sym asked.wanted ∙ ap (option_map (asked_rules algs (holder_answer answers))) none in
      cc both

  -- it was said to be good, where a key binding token is asked for
  pub accepted_good : (rules : BindingRules) → (caller_demands policy algs answers).binding ≡ Some rules → holder_answer answers ≡ Some SignatureAnswer.Good
  accepted_good rules wanted = go (holder_answer answers) refl
    where
      not_bad : (holder_answer answers ≡ Some SignatureAnswer.Good → ⊥) → ⊥
      not_bad other =
          let (binding, sent) = sent_with rules wanted token.parts.binding refl in
          passes Condition.BindingSignature Nowhere (bad_fails text policy algs now answers token is marked opens rules wanted binding sent (λ answered. other answered.1))

      go : (said : Option SignatureAnswer) → holder_answer answers ≡ said → holder_answer answers ≡ Some SignatureAnswer.Good
      go None e = absurd (not_bad (λ good. let both : None ≡ Some SignatureAnswer.Good = sym e ∙ good in cc both))
      go (Some SignatureAnswer.Unknown) e = absurd (not_bad (λ good. let both : Some SignatureAnswer.Unknown ≡ Some SignatureAnswer.Good = sym e ∙ good in cc both))
      go (Some SignatureAnswer.Bad) e = absurd (not_bad (λ good. let both : Some SignatureAnswer.Bad ≡ Some SignatureAnswer.Good = sym e ∙ good in cc both))
      go (Some SignatureAnswer.Good) e = e
