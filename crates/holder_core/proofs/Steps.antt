-- From the steps of presenting to what is presented, and why it is not.
use Rattle.std.proofs.Common.{◌≡◌, ◌≢◌, ◌<◌, ◌⊎◌, inl, inr, arith, Ok, Err, OnOk, ℕ, Bool, true, false, List, Option, Some, None, Result, IfOk, IfErr, IfSome, refl, sym, ap, subst, ◌∙◌}
use Rattle.std.specs.List.{AllByRecursion}
use Rattle.std.specs.Option.{option_map, is_some}
use Rattle.std.specs.Result.{IsErrAnd}
use Rattle.std.proofs.lemmas.Result.{err_from_is_err_and}
use Rattle.b64url_text.specs.Base64url.{IsWord}
use Rattle.claim_tree.specs.Tree.{Text, Tree}
use Rattle.compact_form.specs.Compact.{AreWords}
use Rattle.refusals.specs.Condition.{number_of}
use Rattle.refusals.specs.Faults.{fault_at, failed_of}
use Rattle.refusals.specs.declared.condition.Condition.{Condition}
use Rattle.refusals.specs.declared.fault.Place.{Place}
use Rattle.refusals.specs.declared.fault.Place.TheVariants.{Nowhere}
use Rattle.compact_form.specs.Compact as form
use Rattle.refusals.specs.Lowest.{IsLowest, IsNoLater}
use Rattle.compact_form.specs.Views.{jwt_of}
use Rattle.compact_form.specs.declared.parts.JwtParts.{JwtParts}
use Rattle.compact_form.specs.declared.parts.Parts.{Parts}
use Rattle.compact_form.specs.declared.view.JwtView.{JwtView}
use Rattle.hmac_sign.specs.Signatures.{Meaning}
use Rattle.json_form.specs.Token.{IsToken}
use Rattle.json_form.specs.declared.token.Token.{Token}
use Rattle.json_form.proofs.Tokens as tokens
use Rattle.key_binding.specs.Judged.{holder_kid}
use Rattle.marked_tree.specs.Paths.{chosen}
use Rattle.marked_tree.specs.Marked.{Marked, strip, prune}
use Rattle.marked_tree.specs.Numbers.{has}
use Rattle.selection_core.specs.Consent.{RuleAnswers, AllAllowed, IsRefusedAt}
use Rattle.refusals.specs.declared.fault.Fault.{Fault}
use Rattle.jws_part.specs.Header.{IsHeaderUnreadable, IsHeaderCritical}
use Rattle.verifier_core.specs.Asking.{IsEarlyOrSigned}
use Rattle.verifier_core.proofs.Contents.{content_uncounted}
use Rattle.verifier_core.specs.Check.{OnFault, IsSigned, IsUncounted}
use Rattle.verifier_core.specs.Verdict.{Rules, TokenFails}
use Rattle.verifier_core.specs.declared.token_checking.VerifyError.{VerifyError}
use Rattle.holder_core.specs.Asked.{Asked}
use Rattle.holder_core.specs.declared.errors.PresentError.{PresentError}
use Rattle.holder_core.specs.declared.errors.PresentError.TheVariants.{Memory, Token as OnCondition, HasBinding, NoSuchPlace, ConsentRefused, BindingKeyDiffers}
use Rattle.holder_core.specs.Unchecked.{unchecked}
use Rattle.holder_core.specs.Present.{picked, shown_for, IsHeld, IsAgreed, NamesKey, IsNoAnswer, IsPresented, IsNotPresented, no_memory, not_read, refused}
use Rattle.holder_core.specs.PresentCalls.{IsUnchecked, OnTokenFault, PresentFails, of_file, of_token}
use Rattle.holder_core.specs.PresentSteps.{IsUnread, IsUnchosen, IsChosen, IsOtherKey, IsShown, IsReady, IsUnready, IsUncheckedOrUnready, IsAnswered, IsSignedOrEarly}
use Rattle.holder_core.specs.declared.presenting.Unbound.{Unbound}
use Rattle.marked_tree.proofs.PrunedSame.{Same, prune_same}
use Rattle.holder_core.proofs.Picking.{picked_same, picked_words}

-- a token that is not checked
pub unchecked_told : (token : Token) (rules : Rules) (e : VerifyError) → OnFault e (IsLowest (TokenFails token rules)) → IsUnchecked token rules (unchecked e)
unchecked_told token rules VerifyError.Memory h = tt
unchecked_told token rules (VerifyError.Fault fault) h = h

pub fault_told : (e : VerifyError) (P : Fault → Type 0) → OnFault e P → OnTokenFault (unchecked e) P
fault_told VerifyError.Memory P h = tt
fault_told (VerifyError.Fault fault) P h = h

-- what refuses the token is handed on
pub unchecked_handed : {A F : Type 0} (answers : RuleAnswers F) (rule : F) (token : Token) (asked : Asked) (r : Result A PresentError) (v : VerifyError) → IsErrAnd r (λ e. e ≡ unchecked v)
    → OnFault v (IsLowest (TokenFails token asked.rules)) → IfErr r (IsUncheckedOrUnready answers rule token asked)
unchecked_handed answers rule token asked r v from low =
    let is = err_from_is_err_and r from in
    rw (is.1, is.2) (inl (unchecked_told token asked.rules v low))

module _ {F : Type 0} (answers : RuleAnswers F) (rule : F) (m : Marked) (s t : ℕ → Bool) (same : Same s t) where
  pub allowed_same : AllAllowed answers rule m s → AllAllowed answers rule m t
  allowed_same all i at is stands = all i at (same i ∙ is) stands

  pub refused_same : (i : ℕ) → IsRefusedAt answers rule m s i → IsRefusedAt answers rule m t i
  refused_same i r = record {
    chosen = sym (same i) ∙ r.chosen;
    at = r.at;
    stands = r.stands;
    refused = r.refused;
    smaller = λ j there low is stands. r.smaller j there low (same j ∙ is) stands;
  }

shown_same : (m : Marked) (s t : ℕ → Bool) → Same s t → strip (prune m s) ≡ strip (prune m t)
shown_same m s t same = ap strip (prune_same s t same m)

pub words_picked : (parts answer : Parts) (s : ℕ → Bool) → AreWords parts → answer.signed ≡ parts.signed → answer.disclosures ≡ picked s parts.disclosures → answer.binding ≡ None → AreWords answer
words_picked parts answer s words signed disclosures none = record {
  signed = subst form.HasWords (sym signed) words.signed;
  disclosures = subst (AllByRecursion IsWord) (sym disclosures) (picked_words s parts.disclosures words.disclosures);
  binding = subst (λ o. IfSome o form.HasWords) (sym none) tt;
}

module _ {F : Type 0} (answers : RuleAnswers F) (rule : F) (token : Token) (asked : Asked) where
  module _ (marked : Marked) (held : IsHeld token asked marked) where
    pub unchosen : (e : PresentError) → IsUnchosen answers rule marked asked.want e → IsUnready answers rule token asked e
    unchosen Memory h = tt
    unchosen (NoSuchPlace k) h = record { marked = marked; held = held; missing = h }
    unchosen (ConsentRefused i) h = record { marked = marked; held = held; there = h.0; refused = h.1 }
    unchosen _ h = absurd h

    module _ (marks : List ℕ) (is : IsChosen answers rule marked asked.want marks) where
      agreed : IsAgreed answers rule token asked marked
      agreed = record { held = held; there = is.there; allowed = is.allowed }

      same_shown : strip (prune marked (has marks)) ≡ shown_for marked asked.want
      same_shown = shown_same marked (has marks) (chosen marked asked.want) is.same

      pub other_key : (e : PresentError) → IsOtherKey asked.binding (strip (prune marked (has marks))) e → IsUnready answers rule token asked e
      other_key Memory h = tt
      other_key BindingKeyDiffers h = record {
        marked = marked;
        agreed = agreed;
        binding = h.0;
        asked_for = h.2;
        kid = h.1;
        named = h.3;
        differs = subst (λ (p : Tree). holder_kid p ≢ Some h.1) same_shown h.4;
      }
      other_key _ h = absurd h

      pub ready : NamesKey asked.binding (strip (prune marked (has marks))) → (unbound : Unbound) → unbound.parts.signed ≡ token.parts.signed
          → unbound.parts.disclosures ≡ picked (has marks) token.parts.disclosures → unbound.parts.binding ≡ None → IsShown asked.binding (strip (prune marked (has marks))) unbound.payload
          → IsReady answers rule token asked marked unbound
      ready key unbound signed disclosures none shown = record {
        agreed = agreed;
        key = subst (NamesKey asked.binding) same_shown key;
        presents = record {
          signed = signed;
          disclosures = disclosures ∙ picked_same (has marks) (chosen marked asked.want) is.same token.parts.disclosures;
          binding_is = none;
        };
        shown = subst (λ (p : Tree). IsShown asked.binding p unbound.payload) same_shown shown;
      }

  module _ (alg : Text) (good : Meaning) (now : ℕ) where
    pub unchecked_refused : (e : PresentError) → token.parts.binding ≡ None → IsUnchecked token asked.rules e → IsNoAnswer answers rule token asked alg good now e
    unchecked_refused Memory none h = tt
    unchecked_refused (OnCondition fault) none h = (none, h)
    unchecked_refused _ none h = absurd h

    pub unready_refused : (e : PresentError) → IsUnready answers rule token asked e → IsNoAnswer answers rule token asked alg good now e
    unready_refused Memory h = tt
    unready_refused (NoSuchPlace k) h = h
    unready_refused (ConsentRefused i) h = h
    unready_refused BindingKeyDiffers h = h
    unready_refused _ h = absurd h

    pub unpresented_refused : (e : PresentError) → token.parts.binding ≡ None → IsUncheckedOrUnready answers rule token asked e → IsNoAnswer answers rule token asked alg good now e
    unpresented_refused e none (inl h) = unchecked_refused e none h
    unpresented_refused e none (inr h) = unready_refused e h

-- a text that is not read as a token without key binding token is not presented
pub unread_refused : {F : Type 0} (answers : RuleAnswers F) (rule : F) (content : Text) (asked : Asked) (alg : Text) (good : Meaning) (now : ℕ) (e : PresentError) → IsUnread content e
    → IsNotPresented answers rule content asked alg good now e
unread_refused answers rule content asked alg good now Memory h = no_memory refl
unread_refused answers rule content asked alg good now (OnCondition fault) h = not_read fault refl h
unread_refused answers rule content asked alg good now HasBinding h = refused h.0 h.1 h.2
unread_refused answers rule content asked alg good now _ h = absurd h

-- what is answered of the token of a text is so of the text
pub text_answered : {F : Type 0} (answers : RuleAnswers F) (rule : F) (content : Text) (token : Token) → IsToken content token → (asked : Asked) (alg : Text) (good : Meaning) (now : ℕ) (r : Result Parts PresentError)
    → IsAnswered answers rule token asked alg good now r → IfOk r (IsPresented answers rule content asked alg good now) × IfErr r (IsNotPresented answers rule content asked alg good now)
text_answered answers rule content token is asked alg good now (Ok answer) h = (record { token = token; is_token = is; is_answer = h }, tt)
text_answered answers rule content token is asked alg good now (Err e) h = (tt, refused token is h)

-- ---- the issuer's signature

-- where it is good, no error says that it is not
pub signed_or_early : (token : Token) (rules : Rules) → IsSigned token.parts.signed token.outer rules → (e : PresentError) → IsSignedOrEarly token rules e
signed_or_early token rules signed Memory = tt
signed_or_early token rules signed (OnCondition fault) = inr signed
signed_or_early token rules signed _ = signed

pub signed_result : {A : Type 0} (token : Token) (rules : Rules) → IsSigned token.parts.signed token.outer rules → (r : Result A PresentError) → IfErr r (IsSignedOrEarly token rules)
signed_result token rules signed (Ok a) = tt
signed_result token rules signed (Err e) = signed_or_early token rules signed e

pub read_or_early : (token : Token) (rules : Rules) (e : VerifyError) → OnFault e (IsEarlyOrSigned token rules) → IsSignedOrEarly token rules (unchecked e)
read_or_early token rules VerifyError.Memory h = tt
read_or_early token rules (VerifyError.Fault fault) h = h

pub signed_ok : {A E : Type 0} (P : Type 0) (r : Result A E) → P → OnOk r P
signed_ok P (Ok a) h = h
signed_ok P (Err e) h = tt

-- the header is read where the signature is the lowest that fails
module _ (token : Token) (rules : Rules) (fault : Fault) (l : IsLowest (TokenFails token rules) fault) (at : fault.number ≡ 10) where
  not_low : (c : Condition) → number_of c < 10 → (place : Place) → TokenFails token rules c place → ⊥
  not_low c low place h = go (l.lowest c place h)
    where
      go : (fault.number < number_of c) ⊎ ((c ≡ failed_of fault) × IsNoLater fault.place place) → ⊥
      go (inl less) = omega (arith, at, less, low)
      go (inr same) = let e = ap number_of same.0 in omega (arith, at, low, e, fault.of_condition.1)

  pub header_read : IsHeaderUnreadable token.parts.signed.protected token.outer → ⊥
  header_read unread = not_low Condition.HeaderUnreadable (omega arith) Nowhere (refl, unread)

  pub header_uncritical : IsHeaderCritical token.parts.signed.protected token.outer → ⊥
  header_uncritical critical = not_low Condition.HeaderCritical (omega arith) Nowhere (refl, critical)

-- ---- what is looked up

-- what is so wherever presenting ends, once the token is read
pub ruleset once_read = (signed_result, content_uncounted)

-- nothing for the text where nothing is for the token
pub text_uncounted : (content : Text) (asked : Asked) (token : Token) → IsToken content token → (old new : ℕ) → IsUncounted (TokenFails token asked.rules) old new → IsUncounted (PresentFails content asked) old new
text_uncounted content asked token is old new same c place (of_file h) low = absurd (is.passes (fault_at c place) h)
text_uncounted content asked token is old new same c place (of_token t there h) low =
    same c place (subst (λ (x : Token). TokenFails x asked.rules c place) (tokens.one content t token there is) h) low

-- ---- whether there is a key binding token

pub is_bound : (o : Option JwtView) (p : Option JwtParts) → option_map jwt_of o ≡ p → is_some o ≡ true → p ≢ None
is_bound None p same there none = cc there
is_bound (Some j) p same there none = let both = same ∙ none in cc both

pub is_unbound : (o : Option JwtView) (p : Option JwtParts) → option_map jwt_of o ≡ p → is_some o ≡ false → p ≡ None
is_unbound None p same there = sym same
is_unbound (Some j) p same there = absurd (cc there)
