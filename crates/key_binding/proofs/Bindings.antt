-- What is written of a key binding token: words, and short.
use Rattle.std.proofs.Common.{ℕ, suc, ◌+◌, ◌*◌, ◌^◌, ◌<◌, ◌≤◌, List, [], ◌∷◌, ◌++◌, Bool, true, false, cond, nat_lt, length, codes, ap, ◌∙◌, arith, length-append}
use Rattle.std.proofs.lemmas.Fmt.{length-decimal-le}
use Rattle.json.specs.Print.{escape_letter, escape_byte, escape, quoted}
use Rattle.serde_json.specs.Data as port
use Rattle.serde_json.specs.Written.{compact_text, members_text, comma_if}
use Rattle.sha2.proofs.Facts256.{length-sha256}
use Rattle.sha2.proofs.Facts512.{length-sha384, length-sha512}
use Rattle.b64url_text.specs.Base64url.{IsWord, b64}
use Rattle.b64url_text.proofs.Codes.{IsWord-b64, letters-b64}
use Rattle.b64url_text.proofs.Lengths.{length-b64}
use Rattle.b64url_text.proofs.PlainLetters.{plain_letters}
use Rattle.claim_tree.specs.Tree.{Text, object, Members}
use Rattle.claim_tree.specs.JsonText.{json_text}
use Rattle.compact_form.specs.Compact.{jwt}
use Rattle.compact_form.specs.declared.parts.JwtParts.{JwtParts}
use Rattle.disclosure.specs.Digest.{digest_of, hash_of}
use Rattle.disclosure.specs.declared.digests.HashAlg.{HashAlg}
use Rattle.hmac_sign.specs.Hmac.{IsGood, hs256_key}
use Rattle.hmac_sign.proofs.Macs.{length-mac}
use Rattle.jws_part.specs.Header.{header_members}
use Rattle.key_binding.specs.Binding.{claims_for, claim_members, binding_header, IsBinding}

pub object_word : (ms : Members) → IsWord (b64 (json_text (object ms)))
object_word ms = IsWord-b64 (json_text (object ms)) (omega arith)

-- ---- the length of JSON

either_short : (b : Bool) (x y : List ℕ) → length x ≤ 6 → length y ≤ 6 → length (cond b x y) ≤ 6
either_short true x y h k = h
either_short false x y h k = k

byte_short : (x : ℕ) → length (escape_byte x) ≤ 6
unfolding escape_byte
byte_short x = either_short (nat_lt 0 (escape_letter x)) _ _ (omega arith) (either_short (nat_lt x 32) _ _ (omega arith) (omega arith))

escape_short : (s : Text) → length (escape s) ≤ 6 * length s
escape_short [] = omega arith
escape_short (x ∷ s) = omega (arith, length-append (escape_byte x) (escape s), byte_short x, escape_short s)

quoted_short : (s : Text) → length (quoted s) ≤ 6 * length s + 2
quoted_short s = omega (arith, length-append (escape s) (34 ∷ []), escape_short s)

comma_short : (later : Bool) → length (comma_if later) ≤ 1
comma_short true = omega arith
comma_short false = omega arith

member_short : (later : Bool) (k : Text) (d : port.Data) (ms : port.Members) → length (members_text later (port.member k d ms)) ≤ 6 * length k + 4 + length (compact_text d) + length (members_text true ms)
member_short later k d ms =
    omega (
      arith,
      length-append (comma_if later) (quoted k ++ 58 ∷ (compact_text d ++ members_text true ms)),
      length-append (quoted k) (58 ∷ (compact_text d ++ members_text true ms)),
      length-append (compact_text d) (members_text true ms),
      comma_short later,
      quoted_short k,
    )

-- within bounds on what is inside
member_within : (later : Bool) (k : Text) (d : port.Data) (ms : port.Members) (x y : ℕ) → length (compact_text d) ≤ x → length (members_text true ms) ≤ y → length (members_text later (port.member k d ms)) ≤ 6 * length k + 4 + x + y
member_within later k d ms x y h i = omega (arith, member_short later k d ms, h, i)

text_within : (s : Text) (n : ℕ) → length s ≤ n → length (quoted s) ≤ 6 * n + 2
text_within s n h = omega (arith, quoted_short s, h)

braced : (s : Text) (n : ℕ) → length s ≤ n → length (123 ∷ s) ≤ suc n
braced s n h = omega (arith, h)

end_within : length (members_text true port.no_members) ≤ 1
end_within = omega arith

-- ---- the parts

digest_quoted : (hash : HashAlg) (hashed : Text) → length (quoted (digest_of hash hashed)) ≤ length (digest_of hash hashed) + 2
digest_quoted hash hashed =
    let plain = ap length (plain_letters (digest_of hash hashed) (letters-b64 (hash_of hash hashed))) in
    omega (arith, length-append (escape (digest_of hash hashed)) (34 ∷ []), plain)

digest_short : (hash : HashAlg) (hashed : Text) → length (digest_of hash hashed) ≤ 86
digest_short HashAlg.Sha256 hashed = omega (arith, length-b64 (hash_of HashAlg.Sha256 hashed), length-sha256 hashed)
digest_short HashAlg.Sha384 hashed = omega (arith, length-b64 (hash_of HashAlg.Sha384 hashed), length-sha384 hashed)
digest_short HashAlg.Sha512 hashed = omega (arith, length-b64 (hash_of HashAlg.Sha512 hashed), length-sha512 hashed)

abbrev header_data : Text → port.Data
header_data alg = port.object (port.member (codes "alg") (port.string alg) (port.member (codes "typ") (port.string (codes "kb+jwt")) port.no_members))

header_data_short : (alg : Text) (n : ℕ) → length alg ≤ n → length (compact_text (header_data alg)) ≤ 6 * n + 86
header_data_short alg n h =
    let last = port.member (codes "typ") (port.string (codes "kb+jwt")) port.no_members in
    let typ = member_within true (codes "typ") (port.string (codes "kb+jwt")) port.no_members 38 1 (text_within (codes "kb+jwt") 6 (omega arith)) end_within in
    let first = member_within false (codes "alg") (port.string alg) last (6 * n + 2) 61 (text_within alg n h) typ in
    let whole = braced (members_text false (port.member (codes "alg") (port.string alg) last)) _ first in
    omega (arith, whole)

-- JSON writes each byte of the name as at most six
pub header_short : (alg : Text) (n : ℕ) → length alg ≤ n → length (json_text (object (header_members (binding_header alg)))) ≤ 6 * n + 86
header_short alg n h = header_data_short alg n h

abbrev claims_data : Text → ℕ → Text → Text → port.Data
claims_data aud iat nonce sd_hash =
    port.object
    (port.member (codes "aud") (port.string aud)
    (port.member (codes "iat") (port.number (port.unsigned iat)) (port.member (codes "nonce") (port.string nonce) (port.member (codes "sd_hash") (port.string sd_hash) port.no_members))))

claims_data_short : (aud nonce sd_hash : Text) (iat : ℕ) → length aud ≤ 256 → length nonce ≤ 256 → length (quoted sd_hash) ≤ 88 → iat < 2 ^ 64 → length (compact_text (claims_data aud iat nonce sd_hash)) ≤ 3310
claims_data_short aud nonce sd_hash iat a n h i =
    let last = port.member (codes "sd_hash") (port.string sd_hash) port.no_members in
    let third = port.member (codes "nonce") (port.string nonce) last in
    let second = port.member (codes "iat") (port.number (port.unsigned iat)) third in
    let at_last = member_within true (codes "sd_hash") (port.string sd_hash) port.no_members 88 1 h end_within in
    let at_third = member_within true (codes "nonce") (port.string nonce) last 1538 135 (text_within nonce 256 n) at_last in
    let at_second = member_within true (codes "iat") (port.number (port.unsigned iat)) third 20 1707 (length-decimal-le 20 iat (omega arith) (omega (arith, i)) i) at_third in
    let at_first = member_within false (codes "aud") (port.string aud) second 1538 1749 (text_within aud 256 a) at_second in
    braced (members_text false (port.member (codes "aud") (port.string aud) second)) 3309 at_first

pub claims_short : (hash : HashAlg) (hashed aud nonce : Text) (iat : ℕ) → length aud ≤ 256 → length nonce ≤ 256 → iat < 2 ^ 64
    → length (json_text (object (claim_members (claims_for hash hashed aud nonce iat)))) ≤ 3310
claims_short hash hashed aud nonce iat a n i = claims_data_short aud nonce (digest_of hash hashed) iat a n (omega (arith, digest_quoted hash hashed, digest_short hash hashed)) i

-- ---- the token

pub binding_short : (key : List ℕ) (hash : HashAlg) (hashed aud nonce : Text) (iat : ℕ) (token : JwtParts) → length aud ≤ 256 → length nonce ≤ 256 → iat < 2 ^ 64 → IsBinding (codes "HS256") (IsGood (hs256_key key)) hash hashed aud nonce iat token
    → length (jwt token) < 5000
binding_short key hash hashed aud nonce iat token a n i is =
    let protected = ap length is.protected in
    let payload = ap length is.payload in
    let signature = ap length is.signature_text in
    let code = ap length is.signed ∙ length-mac (hs256_key key) token.protected token.payload in
    omega (
      arith,
      protected,
      payload,
      signature,
      code,
      length-b64 (json_text (object (header_members (binding_header (codes "HS256"))))),
      length-b64 (json_text (object (claim_members (claims_for hash hashed aud nonce iat)))),
      length-b64 is.signature,
      header_short (codes "HS256") 5 (omega arith),
      claims_short hash hashed aud nonce iat a n i,
      length-append token.protected (46 ∷ (token.payload ++ 46 ∷ token.signature)),
      length-append token.payload (46 ∷ token.signature),
    )
