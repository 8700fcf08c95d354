-- Key binding tokens, RFC 9901 section 4.3: what a holder writes for a verifier.
use Rattle.std.specs.Prelude.{◌≡◌, ℕ, ℤ, pos, List, None, Some, codes}
use Rattle.b64url_text.specs.Base64url.{b64}
use Rattle.claim_tree.specs.Tree.{Text, leaf, whole, object, Members, no_members, member}
use Rattle.claim_tree.specs.JsonText.{json_text}
use Rattle.compact_form.specs.declared.parts.JwtParts.{JwtParts}
use Rattle.disclosure.specs.Digest.{digest_of}
use Rattle.disclosure.specs.declared.digests.HashAlg.{HashAlg}
use Rattle.hmac_sign.specs.Signatures.{Meaning}
use Rattle.hmac_sign.specs.declared.unsigned_jwt.UnsignedJwt.{UnsignedJwt}
use Rattle.jws_part.specs.declared.header.Header.{Header}
use Rattle.jws_part.specs.Header.{IsHeader, header_members, text_tree}
use Rattle.jws_part.specs.Part.{IsBody}

-- what a key binding token claims
pub record Claims : Type 0 where
  -- the verifier that it is for
  pub aud : Text
  -- when it was made, in seconds since 1970
  pub iat : ℤ
  -- what the verifier gave for this one use
  pub nonce : Text
  -- the digest of the token that it is sent with
  pub sd_hash : Text

-- the claims of one that is made over a text, for an audience, with a nonce, at a moment
abbrev pub claims_for : HashAlg → Text → Text → Text → ℕ → Claims
claims_for hash hashed aud nonce iat =
    record { aud = aud; iat = pos iat; nonce = nonce; sd_hash = digest_of hash hashed }

abbrev pub claim_members : Claims → Members
claim_members claims =
    member (codes "aud") (text_tree claims.aud)
    (member (codes "iat") (leaf (whole claims.iat))
    (member (codes "nonce") (text_tree claims.nonce)
    (member (codes "sd_hash") (text_tree claims.sd_hash) no_members)))

-- the header of each, by the name of the algorithm that signs
abbrev pub binding_header : Text → Header
binding_header alg = record { alg = alg; kid = None; typ = Some (codes "kb+jwt") }

-- what is to be signed is that of these claims: its header and its payload are compact JSON
pub record IsUnsignedBinding (alg : Text) (hash : HashAlg) (hashed aud nonce : Text) (iat : ℕ)
    (unsigned : UnsignedJwt) : Type 0 where
  pub protected : unsigned.protected
      ≡ b64 (json_text (object (header_members (binding_header alg))))
  pub payload : unsigned.payload
      ≡ b64 (json_text (object (claim_members (claims_for hash hashed aud nonce iat))))

-- the token is that of these claims, and its signature, by the algorithm of this name, is good
pub record IsBinding (alg : Text) (good : Meaning) (hash : HashAlg) (hashed aud nonce : Text)
    (iat : ℕ) (token : JwtParts) : Type 0 where
  pub protected : token.protected ≡ b64 (json_text (object (header_members (binding_header alg))))
  pub payload : token.payload
      ≡ b64 (json_text (object (claim_members (claims_for hash hashed aud nonce iat))))
  pub signature : List ℕ
  pub signature_text : token.signature ≡ b64 signature
  pub signed : good token.protected token.payload signature

-- the texts are read as those of these claims
pub record AreReadBack (alg : Text) (hash : HashAlg) (hashed aud nonce : Text) (iat : ℕ)
    (protected payload : Text) : Type 0 where
  pub header : IsHeader protected no_members (binding_header alg)
  pub body : IsBody payload (object (claim_members (claims_for hash hashed aud nonce iat)))

-- the token is read as that of these claims
abbrev pub IsReadBack : Text → HashAlg → Text → Text → Text → ℕ → JwtParts → Type 0
IsReadBack alg hash hashed aud nonce iat token =
    AreReadBack alg hash hashed aud nonce iat token.protected token.payload
