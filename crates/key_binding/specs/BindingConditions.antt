-- What fails each condition on a key binding token, RFC 9901 section 7.3.
use Rattle.std.specs.Prelude.{◌≡◌, ◌≢◌, ℕ, ◌⊎◌, ℤ, pos, ◌+ℤ◌, ◌<ℤ◌, List, Some, None, codes}
use Rattle.sd_outside.specs.Lists.{In}
use Rattle.claim_tree.specs.Tree.{Text, Tree, no_members}
use Rattle.refusals.specs.declared.condition.Condition.{Condition}
use Rattle.refusals.specs.Lowest.{Unplaced}
use Rattle.refusals.specs.declared.fault.Place.{Place}
use Rattle.disclosure.specs.Digest.{digest_of}
use Rattle.hmac_sign.specs.Hmac.{IsGoodText, hs256_key}
use Rattle.jws_part.specs.declared.header.Header.{Header}
use Rattle.jws_part.specs.Header.{IsHeaderUnreadable, IsHeaderCritical}
use Rattle.jws_part.specs.Part.{IsBody}
use Rattle.jws_part.specs.Times.{IsTimeUnreadable, IsExpired, IsNotYet}
use Rattle.key_binding.specs.Binding.{Claims}
use Rattle.key_binding.specs.Caller.{Caller, IsAlgUntaken, IsUnknownTo, IsBadTo}
use Rattle.key_binding.specs.Judged.{Judged, Holders, of_keys, of_caller, holder_key, HasBindingHeader, HasClaims}

-- the header is read, and this is so of it
abbrev pub OfHeader : Judged → (Header → Type 0) → Type 0
OfHeader j P = (header : Header) × HasBindingHeader j.token header × P header

-- the claims are read, and this is so of them
abbrev pub OfClaims : Judged → (Claims → Type 0) → Type 0
OfClaims j P = (claims : Claims) × HasClaims j.token claims × P claims

-- the algorithm is none of those with which a holder may sign
abbrev pub IsHolderAlgRefused : Holders → Text → Type 0
IsHolderAlgRefused (of_keys keys) alg = alg ≢ codes "HS256"
IsHolderAlgRefused (of_caller caller) alg = IsAlgUntaken caller alg

-- the header is read, and names an algorithm that the caller takes: only then
-- is it asked for the holder's key
abbrev pub IsAskedOf : Caller → Judged → Type 0
IsAskedOf caller j = OfHeader j (λ header. IsAlgUntaken caller header.alg → ⊥)

-- the holder's key is not known
abbrev pub IsHolderUnknown : Holders → Judged → Type 0
IsHolderUnknown (of_keys keys) j = holder_key keys j.payload ≡ None
IsHolderUnknown (of_caller caller) j = IsAskedOf caller j × IsUnknownTo caller j.token.signature

-- the signature is not good under the holder's key
abbrev pub IsBadBindingSignature : Holders → Judged → Type 0
IsBadBindingSignature (of_keys keys) j =
    (key : List ℕ) × (holder_key keys j.payload ≡ Some key)
    × (IsGoodText (hs256_key key) j.token.protected j.token.payload j.token.signature → ⊥)
IsBadBindingSignature (of_caller caller) j = IsBadTo caller j.token.signature

-- it was made too long ago; sums have no limit
abbrev pub IsStale : ℤ → ℕ → ℕ → ℕ → Type 0
IsStale iat max_age skew now = ((iat +ℤ pos max_age) +ℤ pos skew) <ℤ pos now

-- it is of the future
abbrev pub IsEarly : ℤ → ℕ → ℕ → Type 0
IsEarly iat skew now = (pos now +ℤ pos skew) <ℤ iat

-- its own times are no whole numbers, or do not hold
abbrev pub IsTimeRefused : Tree → ℕ → ℕ → Type 0
IsTimeRefused body skew now =
    IsTimeUnreadable body ⊎ (IsExpired body skew now ⊎ IsNotYet body skew now)

-- what fails each condition, where no lower one fails
abbrev pub BindingFails : Judged → Condition → Place → Type 0
BindingFails j Condition.HolderKeyUnknown place = Unplaced (IsHolderUnknown j.rules.holders j) place
BindingFails j Condition.BindingHeader place =
    Unplaced
    (IsHeaderUnreadable j.token.protected no_members
    ⊎ IsHeaderCritical j.token.protected no_members) place
BindingFails j Condition.BindingAlg place =
    Unplaced (OfHeader j (λ header. IsHolderAlgRefused j.rules.holders header.alg)) place
BindingFails j Condition.BindingSignature place =
    Unplaced (IsBadBindingSignature j.rules.holders j) place
BindingFails j Condition.BindingType place =
    Unplaced (OfHeader j (λ header. header.typ ≢ Some (codes "kb+jwt"))) place
BindingFails j Condition.BindingPayload place =
    Unplaced ((claims : Claims) → HasClaims j.token claims → ⊥) place
BindingFails j Condition.BindingStale place =
    Unplaced (OfClaims j (λ claims. IsStale claims.iat j.rules.max_age j.skew j.now)) place
BindingFails j Condition.BindingEarly place =
    Unplaced (OfClaims j (λ claims. IsEarly claims.iat j.skew j.now)) place
BindingFails j Condition.NonceDiffers place =
    Unplaced (OfClaims j (λ claims. claims.nonce ≢ j.rules.nonce)) place
BindingFails j Condition.AudienceDiffers place =
    Unplaced (OfClaims j (λ claims. In claims.aud j.rules.aud → ⊥)) place
BindingFails j Condition.HashDiffers place =
    Unplaced (OfClaims j (λ claims. claims.sd_hash ≢ digest_of j.hash j.hashed)) place
BindingFails j Condition.BindingTime place =
    Unplaced ((body : Tree) × IsBody j.token.payload body × IsTimeRefused body j.skew j.now) place
BindingFails j _ place = ⊥
