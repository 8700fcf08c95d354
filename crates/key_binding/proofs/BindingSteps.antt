-- The conditions on a key binding token, passed one after another.
use Rattle.std.proofs.Common.{◌≡◌, ◌≢◌, ℤ, ◌<◌, inl, inr, Option, Some, codes, refl, sym, ap, subst, ◌∙◌, arith, rules}
use Rattle.claim_tree.specs.Tree.{Text, Tree, leaf, whole, no_members}
use Rattle.refusals.specs.declared.fault.Place.{Place}
use Rattle.refusals.specs.declared.fault.Place.TheVariants.{Nowhere}
use Rattle.refusals.specs.declared.condition.Condition.{Condition}
use Rattle.refusals.specs.Condition.{number_of}
use Rattle.refusals.specs.Lowest.{IsLowest, NoneFails}
use Rattle.refusals.specs.Faults.{unplaced}
use Rattle.refusals.specs.Passing.{Passes}
use Rattle.refusals.proofs.Lowest.{holds_too, none_fails, refuse_unplaced}
use Rattle.disclosure.specs.Digest.{digest_of}
use Rattle.jws_part.specs.declared.header.Header.{Header}
use Rattle.jws_part.specs.Header.{text_tree}
use Rattle.jws_part.specs.Part.{IsBody, IsNoObject}
use Rattle.jws_part.proofs.Headers as headers
use Rattle.jws_part.proofs.Parts as bodies
use Rattle.key_binding.specs.Binding.{Claims}
use Rattle.sd_outside.specs.Lists.{In}
use Rattle.key_binding.specs.Judged.{Judged, HasBindingHeader, HasClaims, PayloadSays}
use Rattle.key_binding.specs.BindingConditions.{BindingFails, OfClaims, IsHolderAlgRefused, IsHolderUnknown, IsBadBindingSignature, IsStale, IsEarly, IsTimeRefused}

-- each has a number from 27 to 38
pub binding_numbers : (j : Judged) (c : Condition) (place : Place) → BindingFails j c place → (26 < number_of c) × (number_of c < 39)
binding_numbers j Condition.HolderKeyUnknown place h = search rules
binding_numbers j _ place h = search rules

-- ---- what is read is one

same_text : (found : Option Tree) (a b : Text) → found ≡ Some (text_tree a) → found ≡ Some (text_tree b) → a ≡ b
same_text found a b e f = let both : Some (text_tree a) ≡ Some (text_tree b) = sym e ∙ f in cc both

abbrev said : Text → ℤ → Text → Text → Claims
said aud iat nonce sd_hash = record { aud = aud; iat = iat; nonce = nonce; sd_hash = sd_hash }

same_claims : (body : Tree) (a b : Claims) → PayloadSays body a → PayloadSays body b → a ≡ b
same_claims body a b s t =
    let auds : a.aud ≡ b.aud = same_text _ a.aud b.aud s.aud t.aud in
    let moments : Some (leaf (whole a.iat)) ≡ Some (leaf (whole b.iat)) = sym s.iat ∙ t.iat in
    let iats : a.iat ≡ b.iat = cc moments in
    let nonces : a.nonce ≡ b.nonce = same_text _ a.nonce b.nonce s.nonce t.nonce in
    let hashes : a.sd_hash ≡ b.sd_hash = same_text _ a.sd_hash b.sd_hash s.sd_hash t.sd_hash in
    ap (λ (x : Text). said x a.iat a.nonce a.sd_hash) auds ∙ (ap (λ (x : ℤ). said b.aud x a.nonce a.sd_hash) iats
    ∙ (ap (λ (x : Text). said b.aud b.iat x a.sd_hash) nonces ∙ ap (λ (x : Text). said b.aud b.iat b.nonce x) hashes))

module _ (j : Judged) where
  one_body : (a b : Tree) → IsBody j.token.payload a → IsBody j.token.payload b → a ≡ b
  one_body a b = bodies.one_body j.token.payload a b

  pub one_header : (a b : Header) → HasBindingHeader j.token a → HasBindingHeader j.token b → a ≡ b
  one_header a b = headers.one_header j.token.protected no_members a b

  one_claims : (a b : Claims) → HasClaims j.token a → HasClaims j.token b → a ≡ b
  one_claims a b s t = same_claims t.body a b (subst (λ body. PayloadSays body a) (one_body s.body t.body s.is_body t.is_body) s.says) t.says

  -- a condition without a place is the lowest that fails
  pub refuse : (d : Condition) → Passes (number_of d) (BindingFails j) → BindingFails j d Nowhere → IsLowest (BindingFails j) (unplaced d)
  refuse d passes fails = refuse_unplaced (BindingFails j) d (unplaced d) refl passes fails

  -- ---- one after another

  pub start : Passes 27 (BindingFails j)
  start c place h = let n = binding_numbers j c place h in omega (arith, n.0)

  pub at28 : (IsHolderUnknown j.rules.holders j → ⊥) → Passes 28 (BindingFails j)
  at28 known = holds_too (BindingFails j) Condition.HolderKeyUnknown start (λ place w. known w.1)

  no_refusal : (h : Header) → HasBindingHeader j.token h → (place : Place) → BindingFails j Condition.BindingHeader place → ⊥
  no_refusal h has place (is, inl w) = headers.read_not_unreadable j.token.protected no_members h has w
  no_refusal h has place (is, inr w) = headers.read_not_critical j.token.protected no_members h has w

  pub at29 : Passes 28 (BindingFails j) → (h : Header) → HasBindingHeader j.token h → Passes 29 (BindingFails j)
  at29 passes h has = holds_too (BindingFails j) Condition.BindingHeader passes (no_refusal h has)

  pub at30 : Passes 29 (BindingFails j) → (h : Header) → HasBindingHeader j.token h → (IsHolderAlgRefused j.rules.holders h.alg → ⊥) → Passes 30 (BindingFails j)
  at30 passes h has taken = holds_too (BindingFails j) Condition.BindingAlg passes (λ place (is, (k, other, refused)). taken (subst (λ (x : Header). IsHolderAlgRefused j.rules.holders x.alg) (one_header k h other has) refused))

  at31 : Passes 30 (BindingFails j) → (IsBadBindingSignature j.rules.holders j → ⊥) → Passes 31 (BindingFails j)
  at31 passes good = holds_too (BindingFails j) Condition.BindingSignature passes (λ place w. good w.1)

  -- up to the type that the header names, where the signature is good
  pub at_type : (IsHolderUnknown j.rules.holders j → ⊥) → (h : Header) → HasBindingHeader j.token h → (IsHolderAlgRefused j.rules.holders h.alg → ⊥) → (IsBadBindingSignature j.rules.holders j → ⊥) → Passes 31 (BindingFails j)
  at_type known h has taken good = at31 (at30 (at29 (at28 known) h has) h has taken) good

  pub at32 : Passes 31 (BindingFails j) → (h : Header) → HasBindingHeader j.token h → h.typ ≡ Some (codes "kb+jwt") → Passes 32 (BindingFails j)
  at32 passes h has typ = holds_too (BindingFails j) Condition.BindingType passes (λ place (is, (k, other, differs)). differs (subst (λ (x : Header). x.typ ≡ Some (codes "kb+jwt")) (one_header h k has other) typ))

  pub at33 : Passes 32 (BindingFails j) → (claims : Claims) → HasClaims j.token claims → Passes 33 (BindingFails j)
  at33 passes claims has = holds_too (BindingFails j) Condition.BindingPayload passes (λ place w. w.1 claims has)

  -- what is not so of these claims is so of none
  no_claims : (P : Claims → Type 0) (claims : Claims) → HasClaims j.token claims → (P claims → ⊥) → (place : Place) → (place ≡ Nowhere) × OfClaims j P → ⊥
  no_claims P claims has none place (is, (other, other_has, p)) = none (subst P (one_claims other claims other_has has) p)

  pub at34 : Passes 33 (BindingFails j) → (claims : Claims) → HasClaims j.token claims → (IsStale claims.iat j.rules.max_age j.skew j.now → ⊥) → Passes 34 (BindingFails j)
  at34 passes claims has fresh = holds_too (BindingFails j) Condition.BindingStale passes (no_claims (λ x. IsStale x.iat j.rules.max_age j.skew j.now) claims has fresh)

  pub at35 : Passes 34 (BindingFails j) → (claims : Claims) → HasClaims j.token claims → (IsEarly claims.iat j.skew j.now → ⊥) → Passes 35 (BindingFails j)
  at35 passes claims has made = holds_too (BindingFails j) Condition.BindingEarly passes (no_claims (λ x. IsEarly x.iat j.skew j.now) claims has made)

  pub at36 : Passes 35 (BindingFails j) → (claims : Claims) → HasClaims j.token claims → claims.nonce ≡ j.rules.nonce → Passes 36 (BindingFails j)
  at36 passes claims has same = holds_too (BindingFails j) Condition.NonceDiffers passes (no_claims (λ x. x.nonce ≢ j.rules.nonce) claims has (λ differs. differs same))

  pub at37 : Passes 36 (BindingFails j) → (claims : Claims) → HasClaims j.token claims → In claims.aud j.rules.aud → Passes 37 (BindingFails j)
  at37 passes claims has same = holds_too (BindingFails j) Condition.AudienceDiffers passes (no_claims (λ x. In x.aud j.rules.aud → ⊥) claims has (λ differs. differs same))

  pub at38 : Passes 37 (BindingFails j) → (claims : Claims) → HasClaims j.token claims → claims.sd_hash ≡ digest_of j.hash j.hashed → Passes 38 (BindingFails j)
  at38 passes claims has same = holds_too (BindingFails j) Condition.HashDiffers passes (no_claims (λ x. x.sd_hash ≢ digest_of j.hash j.hashed) claims has (λ differs. differs same))

  pub finish : Passes 38 (BindingFails j) → (body : Tree) → IsBody j.token.payload body → (IsTimeRefused body j.skew j.now → ⊥) → NoneFails (BindingFails j)
  finish passes body has held = none_fails (BindingFails j) 39 (holds_too (BindingFails j) Condition.BindingTime passes go) (λ c place h. (binding_numbers j c place h).1)
    where
      go : (place : Place) → BindingFails j Condition.BindingTime place → ⊥
      go place (at, (other, other_has, refused)) = held (subst (λ x. IsTimeRefused x j.skew j.now) (one_body other body other_has has) refused)

  -- ---- no claims

  pub refuse_unread : Passes 32 (BindingFails j) → IsNoObject j.token.payload → IsLowest (BindingFails j) (unplaced Condition.BindingPayload)
  refuse_unread passes none = refuse Condition.BindingPayload passes (refl, λ claims has. bodies.not_both j.token.payload has.body has.is_body none)

  pub refuse_unsaid : Passes 32 (BindingFails j) → (body : Tree) → IsBody j.token.payload body → ((claims : Claims) → PayloadSays body claims → ⊥) → IsLowest (BindingFails j) (unplaced Condition.BindingPayload)
  refuse_unsaid passes body is_body none = refuse Condition.BindingPayload passes (refl, λ claims has. none claims (subst (λ b. PayloadSays b claims) (one_body has.body body has.is_body is_body) has.says))
