-- Not needed to believe the program's promises: a JWT and what was signed of
-- it, RFC 7515 section 5.1.
use Rattle.std.specs.Prelude.{◌≡◌, ◌<◌, ℕ, List, length}
use Rattle.b64url_text.specs.Base64url.{b64}
use Rattle.compact_form.specs.declared.parts.JwtParts.{JwtParts}
use Rattle.hmac_sign.specs.Signatures.{Meaning}
use Rattle.hmac_sign.specs.declared.unsigned_jwt.UnsignedJwt.{UnsignedJwt}

-- it has the texts that were to be signed, and this signature
pub record IsSignedWith (unsigned : UnsignedJwt) (signature : List ℕ) (jwt : JwtParts)
    : Type 0 where
  pub protected : jwt.protected ≡ unsigned.protected
  pub payload : jwt.payload ≡ unsigned.payload
  pub signature_text : jwt.signature ≡ b64 signature

-- it has a signature that is good, and not empty
pub record IsSignedBy (unsigned : UnsignedJwt) (good : Meaning) (jwt : JwtParts) : Type 0 where
  pub signature : List ℕ
  pub with_it : IsSignedWith unsigned signature jwt
  pub some : 0 < length signature
  pub signed : good unsigned.protected unsigned.payload signature
