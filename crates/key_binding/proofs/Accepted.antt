-- What is bound is accepted.
use Rattle.std.proofs.Common.{◌≡◌, inl, inr, ℕ, pos, ◌+◌, ◌<◌, ◌≤◌, List, Some, None, codes, refl, sym, subst, ◌∙◌, arith}
use Rattle.std.proofs.Math.Facts.{ltb_yes}
use Rattle.b64url_text.specs.Base64url.{AreBytes, b64}
use Rattle.sd_outside.specs.Lists.{In}
use Rattle.claim_tree.specs.Tree.{Text, Tree, object}
use Rattle.refusals.specs.Lowest.{NoneFails}
use Rattle.hmac_sign.specs.Hmac.{IsGood, IsGoodText, hs256_key}
use Rattle.hmac_sign.specs.Signatures.{Meaning}
use Rattle.hmac_sign.proofs.Macs.{AreBytes-mac}
use Rattle.key_binding.specs.Binding.{Claims, claims_for, claim_members, binding_header, IsBinding, IsReadBack}
use Rattle.hmac_sign.specs.declared.key_set.NamedKey.{NamedKey}
use Rattle.key_binding.specs.Judged.{Judged, Holders, of_keys, of_caller, holder_key, HasClaims}
use Rattle.key_binding.specs.Trusted.{TrustsHolder}
use Rattle.key_binding.specs.declared.caller.SignatureAnswer.{SignatureAnswer}
use Rattle.key_binding.specs.BindingConditions.{BindingFails, IsHolderUnknown, IsHolderAlgRefused, IsBadBindingSignature, IsStale, IsEarly, IsTimeRefused}
use Rattle.key_binding.proofs.BindingSteps.{at_type, at32, at33, at34, at35, at36, at37, at38, finish}

-- it claims no times beside its moment
no_times : (claims : Claims) (skew now : ℕ) → IsTimeRefused (object (claim_members claims)) skew now → ⊥
no_times claims skew now (inl (inl h)) = cc h.1
no_times claims skew now (inl (inr h)) = cc h.1
no_times claims skew now (inr (inl h)) = cc h.1
no_times claims skew now (inr (inr h)) = cc h.1

fresh_enough : (iat max_age skew now : ℕ) → now ≤ iat + max_age + skew → IsStale (pos iat) max_age skew now → ⊥
fresh_enough iat max_age skew now h stale = let late : iat + max_age + skew < now = ltb_yes stale.lt in omega (arith, h, late)

made_already : (iat skew now : ℕ) → iat ≤ now + skew → IsEarly (pos iat) skew now → ⊥
made_already iat skew now h early = let before : now + skew < iat = ltb_yes early.lt in omega (arith, h, before)

known : (holders : Holders) (j : Judged) (alg : Text) (good : Meaning) → TrustsHolder holders j.payload alg good → IsHolderUnknown holders j → ⊥
known (of_keys keys) j alg good (is, key, found, goods) unknown = let both : Some key ≡ None = sym found ∙ unknown in cc both
known (of_caller caller) j alg good (known_alg, said, bytes) (asked, unknown) =
    let both : Some SignatureAnswer.Good ≡ Some SignatureAnswer.Unknown = sym said ∙ unknown.1 in
    cc both

taken : (holders : Holders) (payload : Tree) (alg : Text) (good : Meaning) → TrustsHolder holders payload alg good → IsHolderAlgRefused holders alg → ⊥
taken (of_keys keys) payload alg good (is, key, found, goods) refused = refused is
taken (of_caller caller) payload alg good (known_alg, said, bytes) refused = known_alg refused

not_bad : (holders : Holders) (j : Judged) (alg : Text) (good : Meaning) → TrustsHolder holders j.payload alg good
    → (signature : List ℕ) → j.token.signature ≡ b64 signature → good j.token.protected j.token.payload signature → IsBadBindingSignature holders j → ⊥
not_bad (of_keys keys) j alg good (is, key, found, goods) signature text signed (other, other_is, bad) =
    let is_good = goods j.token.protected j.token.payload signature signed in
    let bytes : AreBytes signature = subst AreBytes (sym is_good) (AreBytes-mac (hs256_key key) j.token.protected j.token.payload) in
    let both : Some key ≡ Some other = sym found ∙ other_is in
    let one : key ≡ other = cc both in
    bad (subst (λ x. IsGoodText (hs256_key x) j.token.protected j.token.payload j.token.signature) one (signature, record { fit = bytes; spelling = text }, is_good))
not_bad (of_caller caller) j alg good (known_alg, said, bytes) signature text signed bad =
    bad (λ none. none signature (record { fit = bytes _ _ signature signed; spelling = text }), said)

pub accepted : (alg : Text) (good : Meaning) (aud : List ℕ) (iat : ℕ) (j : Judged) → IsBinding alg good j.hash j.hashed aud j.rules.nonce iat j.token
    → IsReadBack alg j.hash j.hashed aud j.rules.nonce iat j.token → TrustsHolder j.rules.holders j.payload alg good
    → In aud j.rules.aud → j.now ≤ iat + j.rules.max_age + j.skew → iat ≤ j.now + j.skew → NoneFails (BindingFails j)
accepted alg good aud iat j is back trusts among fresh made =
    let claims = claims_for j.hash j.hashed aud j.rules.nonce iat in
    let body = object (claim_members claims) in
    let has : HasClaims j.token claims = record { body = body; is_body = back.body; says = record { aud = refl; iat = refl; nonce = refl; sd_hash = refl } } in
    let header = binding_header alg in
    let is_taken = taken j.rules.holders j.payload alg good trusts in
    let is_good = not_bad j.rules.holders j alg good trusts is.signature is.signature_text is.signed in
    let at_payload = at32 j (at_type j (known j.rules.holders j alg good trusts) header back.header is_taken is_good) header back.header refl in
    let at_times = at34 j (at33 j at_payload claims has) claims has (fresh_enough iat j.rules.max_age j.skew j.now fresh) in
    let at_nonce = at35 j at_times claims has (made_already iat j.skew j.now made) in
    let at_hash = at37 j (at36 j at_nonce claims has refl) claims has among in
    finish j (at38 j at_hash claims has refl) body back.body (no_times claims j.skew j.now)

pub accepted_by_key : (keys : List NamedKey) (key aud : List ℕ) (iat : ℕ) (j : Judged) → IsBinding (codes "HS256") (IsGood (hs256_key key)) j.hash j.hashed aud j.rules.nonce iat j.token
    → IsReadBack (codes "HS256") j.hash j.hashed aud j.rules.nonce iat j.token → In aud j.rules.aud → j.rules.holders ≡ of_keys keys → holder_key keys j.payload ≡ Some key
    → j.now ≤ iat + j.rules.max_age + j.skew → iat ≤ j.now + j.skew → NoneFails (BindingFails j)
accepted_by_key keys key aud iat j is back among who key_is fresh made =
    let by_key : TrustsHolder (of_keys keys) j.payload (codes "HS256") (IsGood (hs256_key key)) = (refl, key, key_is, λ head body signature is_good. is_good) in
    let trusts = subst (λ (x : Holders). TrustsHolder x j.payload (codes "HS256") (IsGood (hs256_key key))) (sym who) by_key in
    accepted (codes "HS256") (IsGood (hs256_key key)) aud iat j is back trusts among fresh made
