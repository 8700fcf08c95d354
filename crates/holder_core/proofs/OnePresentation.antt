-- A text is presented in one way, or refused for one cause, where the rule has one answer for each place and a text has one good signature.
use Rattle.std.proofs.Common.{◌≡◌, ◌≢◌, ◌⊎◌, inl, inr, ℕ, ◌<◌, ◌≤◌, Bool, List, length, Option, None, Some, refl, sym, ap, ap₂, subst, ◌∙◌, arith}
use Rattle.b64url_text.specs.Base64url.{b64}
use Rattle.claim_tree.specs.Tree.{Text}
use Rattle.sd_outside.specs.Lists.{IsLeast, AtNone}
use Rattle.compact_form.specs.Compact.{compact, hashed}
use Rattle.refusals.specs.Lowest.{IsLowest}
use Rattle.refusals.specs.declared.fault.Fault.{Fault}
use Rattle.sd_outside.specs.Limits.{compact_max}
use Rattle.compact_form.specs.declared.parts.JwtParts.{JwtParts}
use Rattle.compact_form.specs.declared.parts.Parts.{Parts}
use Rattle.refusals.specs.Faults.{failed_of}
use Rattle.disclosure.specs.declared.digests.HashAlg.{HashAlg}
use Rattle.hmac_sign.specs.Signatures.{Meaning}
use Rattle.json_form.proofs.Tokens as tokens
use Rattle.json_form.specs.Token.{IsToken}
use Rattle.json_form.specs.declared.token.Token.{Token}
use Rattle.key_binding.specs.Binding.{IsBinding}
use Rattle.marked_tree.specs.Marked.{Marked, strip}
use Rattle.marked_tree.specs.Paths.{Path, chosen}
use Rattle.selection_core.specs.Consent.{RuleAnswers, AllAllowed, IsRefusedAt}
use Rattle.selection_core.specs.AllowCalls.{IsDecided}
use Rattle.selection_core.specs.ChoiceRefusals.{IsMissing}
use Rattle.verifier_core.specs.Verdict.{TokenFails}
use Rattle.verifier_core.proofs.Verdicts.{one_opening, one_hash}
use Rattle.verifier_core.proofs.OneVerdict.{one_token_fault}
use Rattle.holder_core.specs.Asked.{Asked, BindingAsked, SayTheSame, AskTheSame}
use Rattle.holder_core.specs.declared.errors.PresentError.{PresentError}
use Rattle.holder_core.specs.declared.errors.PresentError.TheVariants.{Memory, Token as OnCondition, HasBinding, NoSuchPlace, ConsentRefused, BindingKeyDiffers, SignFailed, TooLong}
use Rattle.holder_core.specs.Present.{picked, shown_for, IsHeld, NamesKid, NamesKey, IsBoundWith, IsAnswer, IsWantedNotThere, IsConsentRefused, IsBindingKeyOther, IsNoAnswer, IsPresented, IsNotPresented, no_memory, not_read, refused}
use Rattle.sd_outside.proofs.Lists.{least_one}

-- no two signatures of a text are good
abbrev pub HasOneSignature : Meaning → Type 0
HasOneSignature good = (head body one other : List ℕ) → good head body one → good head body other → one ≡ other

-- ---- key binding

jwt_made : Text → Text → Text → JwtParts
jwt_made protected payload signature = record { protected = protected; payload = payload; signature = signature }

one_token : (alg : Text) (good : Meaning) → HasOneSignature good → (hash : HashAlg) (text aud nonce : Text) (now : ℕ) (a b : JwtParts) → IsBinding alg good hash text aud nonce now a → IsBinding alg good hash text aud nonce now b → a ≡ b
unfolding jwt_made
one_token alg good once hash text aud nonce now a b h k =
    let heads : a.protected ≡ b.protected = h.protected ∙ sym k.protected in
    let bodies : a.payload ≡ b.payload = h.payload ∙ sym k.payload in
    let signed = subst (λ (p : Text). good p b.payload h.signature) heads (subst (λ (p : Text). good a.protected p h.signature) bodies h.signed) in
    let signatures : a.signature ≡ b.signature = h.signature_text ∙ (ap b64 (once b.protected b.payload h.signature k.signature signed k.signed) ∙ sym k.signature_text) in
    ap (λ (x : Text). jwt_made x a.payload a.signature) heads ∙ (ap (λ (x : Text). jwt_made b.protected x a.signature) bodies ∙ ap (λ (x : Text). jwt_made b.protected b.payload x) signatures)

says_self : (ask : Option BindingAsked) → SayTheSame ask ask
says_self None = tt
says_self (Some ask) = (refl, refl)

one_bound : (alg : Text) (good : Meaning) → HasOneSignature good → (ask other : Option BindingAsked) → SayTheSame ask other → (hash : HashAlg) (text : Text) (now : ℕ) (a b : Option JwtParts)
    → IsBoundWith ask alg good hash text now a → IsBoundWith other alg good hash text now b → a ≡ b
one_bound alg good once None None same hash text now a b h k = h ∙ sym k
one_bound alg good once None (Some other) same hash text now a b h k = absurd same
one_bound alg good once (Some ask) None same hash text now a b h k = absurd same
one_bound alg good once (Some ask) (Some other) same hash text now None b h k = absurd h
one_bound alg good once (Some ask) (Some other) same hash text now (Some a) None h k = absurd k
one_bound alg good once (Some ask) (Some other) same hash text now (Some a) (Some b) h k =
    let theirs = subst (λ (x : Text). IsBinding alg good hash text x ask.nonce now a) same.0 h.is_binding in
    ap Some (one_token alg good once hash text other.aud other.nonce now a b (subst (λ (x : Text). IsBinding alg good hash text other.aud x now a) same.1 theirs) k.is_binding)

parts_made : JwtParts → List Text → Option JwtParts → Parts
parts_made signed disclosures binding = record { signed = signed; disclosures = disclosures; binding = binding }

-- the answer to what asks the same is one, by whatever rules the token is judged
pub same_answer : {F G : Type 0} (answers : RuleAnswers F) (rule : F) (theirs : RuleAnswers G) (other_rule : G) (token : Token) (asked other : Asked) → AskTheSame asked other
    → (alg : Text) (good : Meaning) → HasOneSignature good → (now : ℕ) (a b : Parts) → IsAnswer answers rule token asked alg good now a → IsAnswer theirs other_rule token other alg good now b → a ≡ b
unfolding parts_made
same_answer answers rule theirs other_rule token asked other same alg good once now a b h k =
    let marks : h.marked ≡ k.marked = one_opening token h.marked k.marked h.agreed.held.checked.opens k.agreed.held.checked.opens in
    let signed : a.signed ≡ b.signed = h.presents.signed ∙ sym k.presents.signed in
    let chosen_same = ap₂ (λ (m : Marked) (want : List Path). picked (chosen m want) token.parts.disclosures) marks same.want in
    let texts : a.disclosures ≡ b.disclosures = h.presents.disclosures ∙ (chosen_same ∙ sym k.presents.disclosures) in
    let hashes : h.hash ≡ k.hash = one_hash token h.hash k.hash h.has_hash k.has_hash in
    let fronts : hashed a ≡ hashed b = ap₂ (λ (j : JwtParts) (ds : List Text). hashed (parts_made j ds None)) signed texts in
    let bound = subst (λ (x : HashAlg). IsBoundWith asked.binding alg good x (hashed b) now a.binding) hashes (subst (λ (x : Text). IsBoundWith asked.binding alg good h.hash x now a.binding) fronts h.bound) in
    let bindings : a.binding ≡ b.binding = one_bound alg good once asked.binding other.binding same.binding k.hash (hashed b) now a.binding b.binding bound k.bound in
    ap (λ (x : JwtParts). parts_made x a.disclosures a.binding) signed ∙ (ap (λ (x : List Text). parts_made b.signed x a.binding) texts ∙ ap (λ (x : Option JwtParts). parts_made b.signed b.disclosures x) bindings)

refused_one : {F : Type 0} (answers : RuleAnswers F) (rule : F) → IsDecided answers rule → (m : Marked) (s : ℕ → Bool) (i j : ℕ) → IsRefusedAt answers rule m s i → IsRefusedAt answers rule m s j → i ≡ j
refused_one answers rule decided m s i j h k = go (either i j)
  where
    either : (a b : ℕ) → (a < b) ⊎ ((b < a) ⊎ (a ≡ b))
    either a b = grind arith

    go : (i < j) ⊎ ((j < i) ⊎ (i ≡ j)) → i ≡ j
    go (inl less) = absurd (decided h.at (k.smaller i h.at less h.chosen h.stands) h.refused)
    go (inr (inl more)) = absurd (decided k.at (h.smaller j k.at more k.chosen k.stands) k.refused)
    go (inr (inr same)) = same

module _ {F : Type 0} (answers : RuleAnswers F) (rule : F) (decided : IsDecided answers rule) (content : Text) (token : Token) (is : IsToken content token) (asked : Asked) (alg : Text) (good : Meaning) (once : HasOneSignature good) (now : ℕ) where
  one_marked : (m n : Marked) → IsHeld token asked m → IsHeld token asked n → m ≡ n
  one_marked m n h k = one_opening token m n h.checked.opens k.checked.opens

  one_fault : (f g : Fault) → IsLowest (TokenFails token asked.rules) f → IsLowest (TokenFails token asked.rules) g → f ≡ g
  one_fault f g h k = one_token_fault token asked.rules f g h k

  -- the answer is one
  pub one_answer : (a b : Parts) → IsAnswer answers rule token asked alg good now a → IsAnswer answers rule token asked alg good now b → a ≡ b
  one_answer a b h k = same_answer answers rule answers rule token asked asked (record { want = refl; binding = says_self asked.binding }) alg good once now a b h k

  -- ---- what a step rules out

  no_fault : (f : Fault) (m : Marked) → IsLowest (TokenFails token asked.rules) f → IsHeld token asked m → ⊥
  no_fault f m l h = h.checked.passes (failed_of f) f.place l.fails

  no_missing : (k : ℕ) (m : Marked) → IsWantedNotThere token asked k → IsHeld token asked m → AtNone (IsMissing (strip m) asked.want) → ⊥
  no_missing k m h held there = subst (λ (x : Marked). AtNone (IsMissing (strip x) asked.want)) (one_marked m h.marked held h.held) there k h.missing.fails

  no_denied : (i : ℕ) (m : Marked) → IsConsentRefused answers rule token asked i → IsHeld token asked m → AllAllowed answers rule m (chosen m asked.want) → ⊥
  no_denied i m h held allowed =
      let all = subst (λ (x : Marked). AllAllowed answers rule x (chosen x asked.want)) (one_marked m h.marked held h.held) allowed in
      decided h.refused.at (all i h.refused.at h.refused.chosen h.refused.stands) h.refused.refused

  no_other : (m : Marked) → IsBindingKeyOther answers rule token asked → IsHeld token asked m → NamesKey asked.binding (shown_for m asked.want) → ⊥
  no_other m h held key =
      let there = subst (λ (x : Marked). NamesKey asked.binding (shown_for x asked.want)) (one_marked m h.marked held h.agreed.held) key in
      let named = subst (λ (b : Option BindingAsked). NamesKey b (shown_for h.marked asked.want)) h.asked_for there in
      h.differs (subst (λ (k : Option Text). NamesKid k (shown_for h.marked asked.want)) h.named named)

  -- a token that is presented is not refused
  pub answered_not_refused : (a : Parts) (e : PresentError) → IsAnswer answers rule token asked alg good now a → length (compact a) ≤ compact_max → IsNoAnswer answers rule token asked alg good now e → (e ≡ Memory) ⊎ (e ≡ SignFailed)
  answered_not_refused a Memory h short r = inl refl
  answered_not_refused a SignFailed h short r = inr refl
  answered_not_refused a HasBinding h short r = absurd (r h.agreed.held.unbound)
  answered_not_refused a (OnCondition f) h short r = absurd (no_fault f h.marked r.1 h.agreed.held)
  answered_not_refused a (NoSuchPlace k) h short r = absurd (no_missing k h.marked r h.agreed.held h.agreed.there)
  answered_not_refused a (ConsentRefused i) h short r = absurd (no_denied i h.marked r h.agreed.held h.agreed.allowed)
  answered_not_refused a BindingKeyDiffers h short r = absurd (no_other h.marked r h.agreed.held h.key)
  answered_not_refused a TooLong h short r =
      let same : r.answer ≡ a = one_answer r.answer a r.is_answer h in
      let long = subst (λ (x : Parts). compact_max < length (compact x)) same r.long in
      absurd (omega (arith, short, long))

  -- a token is refused for one cause, beside want of memory and a signer that fails
  abbrev IsRefusal : PresentError → Type 0
  IsRefusal e = IsNoAnswer answers rule token asked alg good now e

  pub one_refusal : (e o : PresentError) → e ≢ Memory → e ≢ SignFailed → o ≢ Memory → o ≢ SignFailed → IsRefusal e → IsRefusal o → e ≡ o
  one_refusal Memory o a b c d x y = absurd (a refl)
  one_refusal SignFailed o a b c d x y = absurd (b refl)
  one_refusal HasBinding Memory a b c d x y = absurd (c refl)
  one_refusal HasBinding SignFailed a b c d x y = absurd (d refl)
  one_refusal HasBinding HasBinding a b c d x y = refl
  one_refusal HasBinding (OnCondition g) a b c d x y = absurd (x (y.0))
  one_refusal HasBinding (NoSuchPlace l) a b c d x y = absurd (x (y.held.unbound))
  one_refusal HasBinding (ConsentRefused j) a b c d x y = absurd (x (y.held.unbound))
  one_refusal HasBinding BindingKeyDiffers a b c d x y = absurd (x (y.agreed.held.unbound))
  one_refusal HasBinding TooLong a b c d x y = absurd (x (y.is_answer.agreed.held.unbound))
  one_refusal (OnCondition f) Memory a b c d x y = absurd (c refl)
  one_refusal (OnCondition f) SignFailed a b c d x y = absurd (d refl)
  one_refusal (OnCondition f) HasBinding a b c d x y = absurd (y (x.0))
  one_refusal (OnCondition f) (OnCondition g) a b c d x y = ap OnCondition (one_fault f g x.1 y.1)
  one_refusal (OnCondition f) (NoSuchPlace l) a b c d x y = absurd (no_fault f y.marked x.1 y.held)
  one_refusal (OnCondition f) (ConsentRefused j) a b c d x y = absurd (no_fault f y.marked x.1 y.held)
  one_refusal (OnCondition f) BindingKeyDiffers a b c d x y = absurd (no_fault f y.marked x.1 y.agreed.held)
  one_refusal (OnCondition f) TooLong a b c d x y = absurd (no_fault f y.is_answer.marked x.1 y.is_answer.agreed.held)
  one_refusal (NoSuchPlace k) Memory a b c d x y = absurd (c refl)
  one_refusal (NoSuchPlace k) SignFailed a b c d x y = absurd (d refl)
  one_refusal (NoSuchPlace k) HasBinding a b c d x y = absurd (y (x.held.unbound))
  one_refusal (NoSuchPlace k) (OnCondition g) a b c d x y = absurd (no_fault g x.marked y.1 x.held)
  one_refusal (NoSuchPlace k) (NoSuchPlace l) a b c d x y = ap NoSuchPlace (least_one (IsMissing (strip y.marked) asked.want) k l (subst (λ (m : Marked). IsLeast (IsMissing (strip m) asked.want) k) (one_marked x.marked y.marked x.held y.held) x.missing) y.missing)
  one_refusal (NoSuchPlace k) (ConsentRefused j) a b c d x y = absurd (no_missing k y.marked x y.held y.there)
  one_refusal (NoSuchPlace k) BindingKeyDiffers a b c d x y = absurd (no_missing k y.marked x y.agreed.held y.agreed.there)
  one_refusal (NoSuchPlace k) TooLong a b c d x y = absurd (no_missing k y.is_answer.marked x y.is_answer.agreed.held y.is_answer.agreed.there)
  one_refusal (ConsentRefused i) Memory a b c d x y = absurd (c refl)
  one_refusal (ConsentRefused i) SignFailed a b c d x y = absurd (d refl)
  one_refusal (ConsentRefused i) HasBinding a b c d x y = absurd (y (x.held.unbound))
  one_refusal (ConsentRefused i) (OnCondition g) a b c d x y = absurd (no_fault g x.marked y.1 x.held)
  one_refusal (ConsentRefused i) (NoSuchPlace l) a b c d x y = absurd (no_missing l x.marked y x.held x.there)
  one_refusal (ConsentRefused i) (ConsentRefused j) a b c d x y = ap ConsentRefused (refused_one answers rule decided y.marked (chosen y.marked asked.want) i j (subst (λ (m : Marked). IsRefusedAt answers rule m (chosen m asked.want) i) (one_marked x.marked y.marked x.held y.held) x.refused) y.refused)
  one_refusal (ConsentRefused i) BindingKeyDiffers a b c d x y = absurd (no_denied i y.marked x y.agreed.held y.agreed.allowed)
  one_refusal (ConsentRefused i) TooLong a b c d x y = absurd (no_denied i y.is_answer.marked x y.is_answer.agreed.held y.is_answer.agreed.allowed)
  one_refusal BindingKeyDiffers Memory a b c d x y = absurd (c refl)
  one_refusal BindingKeyDiffers SignFailed a b c d x y = absurd (d refl)
  one_refusal BindingKeyDiffers HasBinding a b c d x y = absurd (y (x.agreed.held.unbound))
  one_refusal BindingKeyDiffers (OnCondition g) a b c d x y = absurd (no_fault g x.marked y.1 x.agreed.held)
  one_refusal BindingKeyDiffers (NoSuchPlace l) a b c d x y = absurd (no_missing l x.marked y x.agreed.held x.agreed.there)
  one_refusal BindingKeyDiffers (ConsentRefused j) a b c d x y = absurd (no_denied j x.marked y x.agreed.held x.agreed.allowed)
  one_refusal BindingKeyDiffers BindingKeyDiffers a b c d x y = refl
  one_refusal BindingKeyDiffers TooLong a b c d x y = absurd (no_other y.is_answer.marked x y.is_answer.agreed.held y.is_answer.key)
  one_refusal TooLong Memory a b c d x y = absurd (c refl)
  one_refusal TooLong SignFailed a b c d x y = absurd (d refl)
  one_refusal TooLong HasBinding a b c d x y = absurd (y (x.is_answer.agreed.held.unbound))
  one_refusal TooLong (OnCondition g) a b c d x y = absurd (no_fault g x.is_answer.marked y.1 x.is_answer.agreed.held)
  one_refusal TooLong (NoSuchPlace l) a b c d x y = absurd (no_missing l x.is_answer.marked y x.is_answer.agreed.held x.is_answer.agreed.there)
  one_refusal TooLong (ConsentRefused j) a b c d x y = absurd (no_denied j x.is_answer.marked y x.is_answer.agreed.held x.is_answer.agreed.allowed)
  one_refusal TooLong BindingKeyDiffers a b c d x y = absurd (no_other x.is_answer.marked y x.is_answer.agreed.held x.is_answer.key)
  one_refusal TooLong TooLong a b c d x y = refl

-- ---- the same of a text

module _ {F : Type 0} (answers : RuleAnswers F) (rule : F) (decided : IsDecided answers rule) (content : Text) (asked : Asked) (alg : Text) (good : Meaning) (once : HasOneSignature good) (now : ℕ) where
  pub one_presented : (a b : Parts) → IsPresented answers rule content asked alg good now a → IsPresented answers rule content asked alg good now b → a ≡ b
  one_presented a b h k =
      one_answer answers rule decided content k.token k.is_token asked alg good once now a b
      (subst (λ (t : Token). IsAnswer answers rule t asked alg good now a) (tokens.one content h.token k.token h.is_token k.is_token) h.is_answer)
      k.is_answer

  pub presented_not_refused : (a : Parts) (e : PresentError) → IsPresented answers rule content asked alg good now a → length (compact a) ≤ compact_max → IsNotPresented answers rule content asked alg good now e → (e ≡ Memory) ⊎ (e ≡ SignFailed)
  presented_not_refused a e h short (no_memory is) = inl is
  presented_not_refused a e h short (not_read fault is r) = absurd (tokens.not_both content h.token fault h.is_token r)
  presented_not_refused a e h short (refused token is r) =
      answered_not_refused answers rule decided content token is asked alg good once now a e (subst (λ (t : Token). IsAnswer answers rule t asked alg good now a) (tokens.one content h.token token h.is_token is) h.is_answer) short r

  pub one_cause : (e o : PresentError) → e ≢ Memory → e ≢ SignFailed → o ≢ Memory → o ≢ SignFailed → IsNotPresented answers rule content asked alg good now e → IsNotPresented answers rule content asked alg good now o → e ≡ o
  one_cause e o a b c d (no_memory is) k = absurd (a is)
  one_cause e o a b c d (not_read f is r) (no_memory also) = absurd (c also)
  one_cause e o a b c d (refused token there r) (no_memory also) = absurd (c also)
  one_cause e o a b c d (not_read f is r) (not_read g also q) = is ∙ (ap OnCondition (tokens.one_refusal content f g r q) ∙ sym also)
  one_cause e o a b c d (not_read f is r) (refused token there q) = absurd (tokens.not_both content token f there r)
  one_cause e o a b c d (refused token there r) (not_read g is q) = absurd (tokens.not_both content token g there q)
  one_cause e o a b c d (refused token there r) (refused other here q) =
      one_refusal answers rule decided content other here asked alg good once now e o a b c d (subst (λ (t : Token). IsNoAnswer answers rule t asked alg good now e) (tokens.one content token other there here) r) q
