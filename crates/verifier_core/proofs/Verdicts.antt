-- The verdict on a file, from the verdicts on its form, its token and its claims.
use Rattle.std.proofs.Common.{◌≡◌, ℕ, ◌<◌, ◌≤◌, ◌-◌, ◌^◌, ◌⊎◌, inl, inr, List, length, Some, refl, sym, ap, ap₂, subst, ◌∙◌, arith}
use Rattle.claim_tree.specs.Tree.{Tree}
use Rattle.sd_outside.specs.Limits.{count_max}
use Rattle.refusals.specs.declared.fault.Fault.{Fault}
use Rattle.refusals.specs.Faults.{fault_at, unplaced, failed_of}
use Rattle.refusals.specs.declared.fault.Place.{Place}
use Rattle.refusals.specs.declared.fault.Place.TheVariants.{Nowhere, At, Json}
use Rattle.compact_form.specs.declared.parts.JwtParts.{JwtParts}
use Rattle.compact_form.specs.declared.parts.Parts.{Parts}
use Rattle.compact_form.specs.Compact.{hashed}
use Rattle.json_form.specs.declared.token.Token.{Token}
use Rattle.json_form.specs.Token as file
use Rattle.json_form.specs.Token.{IsToken}
use Rattle.json_form.proofs.Tokens as tokens
use Rattle.disclosure.specs.Digest.{payload_hash}
use Rattle.disclosure.specs.declared.digests.HashAlg.{HashAlg}
use Rattle.digest_sites.specs.Given.{Given}
use Rattle.jws_part.proofs.Parts.{one_body}
use Rattle.key_binding.specs.Judged.{judged, BindingRules}
use Rattle.key_binding.specs.BindingConditions.{BindingFails}
use Rattle.key_binding.proofs.BindingSteps.{binding_numbers}
use Rattle.marked_tree.specs.Marked.{Marked, strip}
use Rattle.rebuild_core.specs.Opening.{processed}
use Rattle.refusals.specs.declared.condition.Condition.{Condition}
use Rattle.refusals.specs.Condition.{number_of}
use Rattle.verifier_core.specs.Verdict.{Demands, TokenFails, ClaimFails, MissingFails, HolderFails, IsBindingMissing, HasHash, FailsFor, of_file, of_missing, of_token, of_claims, of_holder, Opens, IsChecked, IsAcceptedFor}
use Rattle.verifier_core.specs.Check.{IsUncounted, ShownFails}
use Rattle.refusals.specs.Lowest.{IsNoLater, IsLowest, NoneFails}
use Rattle.refusals.proofs.Numbers.{fault_is}
use Rattle.verifier_core.proofs.TokenConditions.{token_numbers}
use Rattle.verifier_core.proofs.ClaimSteps.{claim_numbers}
use Rattle.verifier_core.proofs.CheckSteps.{one_content}
use Rattle.refusals.proofs.Lowest.{below_or_at}

pub few : (content : List ℕ) (token : Token) → IsToken content token → length token.parts.disclosures < 2 ^ 32 - 1
few content token is = go (either (length token.parts.disclosures))
  where
    either : (n : ℕ) → (count_max < n) ⊎ (n ≤ count_max)
    either n = grind arith

    go : (count_max < length token.parts.disclosures) ⊎ (length token.parts.disclosures ≤ count_max) → length token.parts.disclosures < 2 ^ 32 - 1
    go (inl many) = absurd (is.passes (unplaced Condition.TooMuch) (file.too_much token refl is.spells (inl many)))
    go (inr low) = omega (arith, low)

no_later : (place : Place) → IsNoLater place place
no_later Nowhere = tt
no_later (At i) = omega arith
no_later (Json j) = tt

-- a file that is no token
pub file_lowest : (content : List ℕ) (demands : Demands) (now : ℕ) (fault : Fault) → file.IsTextRefused content fault → IsLowest (FailsFor content demands now) fault
file_lowest content demands now fault refused = record {
  fails = of_file (subst (file.TextFails content) (fault_is fault) refused.applies);
  lowest = λ other place h. go other place h;
}
  where
    go : (other : Condition) (place : Place) → FailsFor content demands now other place → (fault.number < number_of other) ⊎ ((other ≡ failed_of fault) × IsNoLater fault.place place)
    go other place (of_missing token there h) = absurd (tokens.not_both content token fault there refused)
    go other place (of_token token there h) = absurd (tokens.not_both content token fault there refused)
    go other place (of_claims token marked there opens h) = absurd (tokens.not_both content token fault there refused)
    go other place (of_holder token marked hash there opens has h) = absurd (tokens.not_both content token fault there refused)
    go other place (of_file h) = placed (below_or_at fault.number (number_of other) (refused.lowest (fault_at other place) h))
      where
        placed : (fault.number < number_of other) ⊎ (fault.number ≡ number_of other) → (fault.number < number_of other) ⊎ ((other ≡ failed_of fault) × IsNoLater fault.place place)
        placed (inl less) = inl less
        placed (inr same) =
            let twin : file.IsTextRefused content (fault_at other place) = record { applies = h; lowest = λ o k. let l = refused.lowest o k in omega (arith, l, same) } in
            let one : fault ≡ fault_at other place = tokens.one_refusal content fault (fault_at other place) refused twin in
            inr (ap failed_of (sym one), subst (λ (x : Fault). IsNoLater fault.place x.place) one (no_later fault.place))

-- a condition on the key binding token has a number from 27 to 38
pub holder_numbers : (parts : Parts) (payload : Tree) (hash : HashAlg) (demands : Demands) (now : ℕ) (c : Condition) (place : Place) → HolderFails parts payload hash demands now c place → 26 < number_of c
holder_numbers parts payload hash demands now c place h =
    let numbers = binding_numbers (judged h.token payload h.binding demands.skew hash (hashed parts) now) c place h.fails in
    numbers.0

module _ (parts : Parts) (payload : Tree) (hash : HashAlg) (demands : Demands) (now : ℕ) where
  same_fails : (binding : BindingRules) (token : JwtParts) → demands.binding ≡ Some binding → parts.binding ≡ Some token → (c : Condition) (place : Place) → HolderFails parts payload hash demands now c place
      → BindingFails (judged token payload binding demands.skew hash (hashed parts) now) c place
  same_fails binding token asked sent c place h =
      let bindings : Some h.binding ≡ Some binding = sym h.asked ∙ asked in
      let tokens_same : Some h.token ≡ Some token = sym h.sent ∙ sent in
      let binding_same : h.binding ≡ binding = cc bindings in
      let token_same : h.token ≡ token = cc tokens_same in
      subst (λ (b : BindingRules). BindingFails (judged token payload b demands.skew hash (hashed parts) now) c place) binding_same
      (subst (λ (j : JwtParts). BindingFails (judged j payload h.binding demands.skew hash (hashed parts) now) c place) token_same h.fails)

  -- claims that are refused
  pub claims_shown : (fault : Fault) → IsLowest (ClaimFails payload demands now) fault → IsLowest (ShownFails parts payload hash demands now) fault
  claims_shown fault l = record { fails = inl l.fails; lowest = λ other place h. go other place h }
    where
      go : (other : Condition) (place : Place) → ShownFails parts payload hash demands now other place → (fault.number < number_of other) ⊎ ((other ≡ failed_of fault) × IsNoLater fault.place place)
      go other place (inl h) = l.lowest other place h
      go other place (inr h) =
          let low = claim_numbers payload demands now (failed_of fault) fault.place l.fails in
          let high = holder_numbers parts payload hash demands now other place h in
          inl (omega (arith, low.1, high, fault.of_condition.1))

  -- a key binding token that is refused
  pub holder_shown : NoneFails (ClaimFails payload demands now) → (fault : Fault) → IsLowest (HolderFails parts payload hash demands now) fault → IsLowest (ShownFails parts payload hash demands now) fault
  holder_shown none fault l = record { fails = inr l.fails; lowest = λ other place h. go other place h }
    where
      go : (other : Condition) (place : Place) → ShownFails parts payload hash demands now other place → (fault.number < number_of other) ⊎ ((other ≡ failed_of fault) × IsNoLater fault.place place)
      go other place (inl h) = absurd (none other place h)
      go other place (inr h) = l.lowest other place h

  -- a key binding token that is judged to fail
  pub holder_lowest : (binding : BindingRules) (token : JwtParts) → demands.binding ≡ Some binding → parts.binding ≡ Some token → (fault : Fault)
      → IsLowest (BindingFails (judged token payload binding demands.skew hash (hashed parts) now)) fault → IsLowest (HolderFails parts payload hash demands now) fault
  holder_lowest binding token asked sent fault l = record {
    fails = record { binding = binding; asked = asked; token = token; sent = sent; fails = l.fails };
    lowest = λ other place h. l.lowest other place (same_fails binding token asked sent other place h);
  }

  pub none_shown : NoneFails (ClaimFails payload demands now) → NoneFails (HolderFails parts payload hash demands now) → NoneFails (ShownFails parts payload hash demands now)
  none_shown claims holder c place (inl h) = claims c place h
  none_shown claims holder c place (inr h) = holder c place h

-- ---- what a token says is one

pub one_opening : (token : Token) (m n : Marked) → Opens token m → Opens token n → m ≡ n
one_opening token m n (p, g, has, e) (q, h, other, f) =
    let same = one_content token p q g h has other in
    e ∙ (ap₂ (λ (t : Tree) (xs : List Given). processed t xs) same.0 same.1 ∙ sym f)

pub one_hash : (token : Token) (a b : HashAlg) → HasHash token a → HasHash token b → a ≡ b
one_hash token a b (body, is_body, named) (other, is_other, also) =
    let same : body ≡ other = one_body token.parts.signed.payload body other is_body is_other in
    let both : Some a ≡ Some b = sym named ∙ (ap payload_hash same ∙ also) in
    cc both

module _ (content : List ℕ) (demands : Demands) (now : ℕ) (token : Token) (is : IsToken content token) where
  -- a key binding token that is asked for and missing
  pub missing_lowest : IsBindingMissing demands token.parts → IsLowest (FailsFor content demands now) (unplaced Condition.BindingMissing)
  missing_lowest missing = record { fails = of_missing token is (refl, (refl, missing)); lowest = λ other place h. go other place h }
    where
      go : (other : Condition) (place : Place) → FailsFor content demands now other place → (4 < number_of other) ⊎ ((other ≡ Condition.BindingMissing) × Unit {0})
      go other place (of_file h) = absurd (is.passes (fault_at other place) h)
      go other place (of_missing t there h) = inr (h.0, tt)
      go other place (of_token t there h) = let numbers = token_numbers t demands.rules other place h in inl numbers.0
      go other place (of_claims t marked there opens h) = let numbers = claim_numbers (strip marked) demands now other place h in inl (omega (arith, numbers.0))
      go other place (of_holder t marked hash there opens has h) = let high = holder_numbers t.parts (strip marked) hash demands now other place h in inl (omega (arith, high))

  module _ (sent : IsBindingMissing demands token.parts → ⊥) where
    not_missing : (t : Token) → IsToken content t → (c : Condition) (place : Place) → MissingFails demands t.parts c place → ⊥
    not_missing t there c place h = sent (subst (λ (x : Token). IsBindingMissing demands x.parts) (tokens.one content t token there is) h.1.1)

    -- nothing is looked up for the text where nothing is for the token
    pub text_uncounted : (old new : ℕ) → IsUncounted (TokenFails token demands.rules) old new → IsUncounted (FailsFor content demands now) old new
    text_uncounted old new same c place (of_file h) low = absurd (is.passes (fault_at c place) h)
    text_uncounted old new same c place (of_missing t there h) low = absurd (not_missing t there c place h)
    text_uncounted old new same c place (of_token t there h) low = same c place (subst (λ (x : Token). TokenFails x demands.rules c place) (tokens.one content t token there is) h) low
    text_uncounted old new same c place (of_claims t marked there opens h) low = let high = claim_numbers (strip marked) demands now c place h in absurd (omega (arith, high.0, low))
    text_uncounted old new same c place (of_holder t marked hash there opens has h) low =
        let high = holder_numbers t.parts (strip marked) hash demands now c place h in
        absurd (omega (arith, high, low))

    -- a token that is refused
    pub token_lowest : (fault : Fault) → IsLowest (TokenFails token demands.rules) fault → IsLowest (FailsFor content demands now) fault
    token_lowest fault l = record { fails = of_token token is l.fails; lowest = λ other place h. go other place h }
      where
        go : (other : Condition) (place : Place) → FailsFor content demands now other place → (fault.number < number_of other) ⊎ ((other ≡ failed_of fault) × IsNoLater fault.place place)
        go other place (of_file h) = absurd (is.passes (fault_at other place) h)
        go other place (of_missing t there h) = absurd (not_missing t there other place h)
        go other place (of_token t there h) = l.lowest other place (subst (λ (x : Token). TokenFails x demands.rules other place) (tokens.one content t token there is) h)
        go other place (of_claims t marked there opens h) =
            let low = token_numbers token demands.rules (failed_of fault) fault.place l.fails in
            let high = claim_numbers (strip marked) demands now other place h in
            inl (omega (arith, low.1, high.0, fault.of_condition.1))
        go other place (of_holder t marked hash there opens has h) =
            let low = token_numbers token demands.rules (failed_of fault) fault.place l.fails in
            let high = holder_numbers t.parts (strip marked) hash demands now other place h in
            inl (omega (arith, low.1, high, fault.of_condition.1))

    module _ (marked : Marked) (checked : IsChecked token demands.rules marked) where
      no_token_fault : (t : Token) → IsToken content t → (c : Condition) (place : Place) → TokenFails t demands.rules c place → ⊥
      no_token_fault t there c place h = checked.passes c place (subst (λ (x : Token). TokenFails x demands.rules c place) (tokens.one content t token there is) h)

      same_claims : (t : Token) (m : Marked) → IsToken content t → Opens t m → m ≡ marked
      same_claims t m there opens = one_opening token m marked (subst (λ (x : Token). Opens x m) (tokens.one content t token there is) opens) checked.opens

      module _ (hash : HashAlg) (has : HasHash token hash) where
        same_holder : (t : Token) (m : Marked) (other : HashAlg) (c : Condition) (place : Place) → IsToken content t → Opens t m → HasHash t other
            → HolderFails t.parts (strip m) other demands now c place → HolderFails token.parts (strip marked) hash demands now c place
        same_holder t m other c place there opens names h =
            let token_same = tokens.one content t token there is in
            let hash_same = one_hash token other hash (subst (λ (x : Token). HasHash x other) token_same names) has in
            subst (λ (a : HashAlg). HolderFails token.parts (strip marked) a demands now c place) hash_same
            (subst (λ (x : Marked). HolderFails token.parts (strip x) other demands now c place) (same_claims t m there opens)
            (subst (λ (x : Token). HolderFails x.parts (strip m) other demands now c place) token_same h))

        -- what is shown is refused
        pub shown_lowest : (fault : Fault) → IsLowest (ShownFails token.parts (strip marked) hash demands now) fault → IsLowest (FailsFor content demands now) fault
        shown_lowest fault l = record { fails = failing (failed_of fault) fault.place l.fails; lowest = λ other place h. go other place h }
          where
            failing : (c : Condition) (place : Place) → ShownFails token.parts (strip marked) hash demands now c place → FailsFor content demands now c place
            failing c place (inl h) = of_claims token marked is checked.opens h
            failing c place (inr h) = of_holder token marked hash is checked.opens has h

            go : (other : Condition) (place : Place) → FailsFor content demands now other place → (fault.number < number_of other) ⊎ ((other ≡ failed_of fault) × IsNoLater fault.place place)
            go other place (of_file h) = absurd (is.passes (fault_at other place) h)
            go other place (of_missing t there h) = absurd (not_missing t there other place h)
            go other place (of_token t there h) = absurd (no_token_fault t there other place h)
            go other place (of_claims t m there opens h) = l.lowest other place (inl (subst (λ (x : Marked). ClaimFails (strip x) demands now other place) (same_claims t m there opens) h))
            go other place (of_holder t m a there opens names h) = l.lowest other place (inr (same_holder t m a other place there opens names h))

        pub accepted : NoneFails (ShownFails token.parts (strip marked) hash demands now) → IsAcceptedFor content demands now marked
        accepted none = record { passes = λ c place h. go c place h; token = token; is_token = is; opens = checked.opens }
          where
            go : (c : Condition) (place : Place) → FailsFor content demands now c place → ⊥
            go c place (of_file h) = is.passes (fault_at c place) h
            go c place (of_missing t there h) = not_missing t there c place h
            go c place (of_token t there h) = no_token_fault t there c place h
            go c place (of_claims t m there opens h) = none c place (inl (subst (λ (x : Marked). ClaimFails (strip x) demands now c place) (same_claims t m there opens) h))
            go c place (of_holder t m a there opens names h) = none c place (inr (same_holder t m a c place there opens names h))
