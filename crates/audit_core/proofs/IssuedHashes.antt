-- The digests and the salts of an issuer are texts of bytes, as many as there are to be.
use Rattle.std.proofs.Common.{◌≡◌, ℕ, zero, suc, ◌+◌, ◌*◌, List, ◌++◌, length, refl, arith}
use Rattle.std.specs.Int.{bytes_low_first}
use Rattle.b64url_text.specs.Base64url.{AreBytes}
use Rattle.b64url_text.proofs.Codes.{AreBytes-append}
use Rattle.disclosure.specs.Digest.{digest_of, hash_of}
use Rattle.disclosure.specs.declared.digests.HashAlg.{HashAlg}
use Rattle.hmac_sign.specs.declared.alg.Alg.{Alg}
use Rattle.hmac_sign.proofs.Blocks.{length-hash_by}
use Rattle.hmac_sign.proofs.Macs.{byte_at-fits, AreBytes-hash_by}
use Rattle.issuer_core.specs.Salts.{word_bytes, salt_piece}
use Rattle.audit_core.specs.Audited.{hash_length, IsDigestText}

-- ---- digests

hash_bytes : (hash : HashAlg) (text : List ℕ) → AreBytes (hash_of hash text)
hash_bytes HashAlg.Sha256 text = AreBytes-hash_by Alg.Hs256 text
hash_bytes HashAlg.Sha384 text = AreBytes-hash_by Alg.Hs384 text
hash_bytes HashAlg.Sha512 text = AreBytes-hash_by Alg.Hs512 text

hash_long : (hash : HashAlg) (text : List ℕ) → length (hash_of hash text) ≡ hash_length hash
hash_long HashAlg.Sha256 text = length-hash_by Alg.Hs256 text
hash_long HashAlg.Sha384 text = length-hash_by Alg.Hs384 text
hash_long HashAlg.Sha512 text = length-hash_by Alg.Hs512 text

pub digest_formed : (hash : HashAlg) (text : List ℕ) → IsDigestText hash (digest_of hash text)
digest_formed hash text = record { bytes = hash_of hash text; decodes = record { fit = hash_bytes hash text; spelling = refl }; long = hash_long hash text }

-- ---- salts

low_first_bytes : (i k n : ℕ) → AreBytes (bytes_low_first i k n)
low_first_bytes i zero n j = omega arith
low_first_bytes i (suc k) n zero = byte_at-fits i n
low_first_bytes i (suc k) n (suc j) = low_first_bytes (suc i) k n j

pub salt_bytes : (seed : List ℕ) (k : ℕ) → AreBytes (salt_piece seed k)
unfolding salt_piece
salt_bytes seed k =
    let word : (i : ℕ) → AreBytes (word_bytes seed i) = λ i. low_first_bytes 0 4 _ in
    let w = word_bytes seed in
    AreBytes-append (w (4 * k)) (w (4 * k + 1) ++ (w (4 * k + 2) ++ w (4 * k + 3))) (word (4 * k))
    (AreBytes-append (w (4 * k + 1)) (w (4 * k + 2) ++ w (4 * k + 3)) (word (4 * k + 1)) (AreBytes-append (w (4 * k + 2)) (w (4 * k + 3)) (word (4 * k + 2)) (word (4 * k + 3))))

pub salt_long : (seed : List ℕ) (k : ℕ) → length (salt_piece seed k) ≡ 16
unfolding salt_piece
salt_long seed k = refl
