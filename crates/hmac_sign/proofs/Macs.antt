-- The code of a head and a body is bytes, as many as its hash has.
use Rattle.std.proofs.Common.{◌≡◌, ℕ, zero, suc, ◌/◌, ◌^◌, ◌<◌, List, length, arith}
use Rattle.std.specs.Prelude.{slice_index}
use Rattle.std.specs.Int.{w32, w64, byte_at, bytes_high_first, to_be_bytes}
use Rattle.b64url_text.specs.Base64url.{AreBytes}
use Rattle.b64url_text.proofs.Codes.{AreBytes-append, AreBytes-take}
use Rattle.sha2.specs.Sha256.{sha256, digest_bytes}
use Rattle.sha2.specs.Sha512 as long
use Rattle.hmac_sign.specs.Algs.{hash_by}
use Rattle.hmac_sign.specs.CodeLengths.{code_length}
use Rattle.hmac_sign.specs.Hmac.{AlgKey, mac}
use Rattle.hmac_sign.specs.declared.alg.Alg.{Alg}
use Rattle.hmac_sign.proofs.Blocks.{length-hash_by}

pub byte_at-fits : (i n : ℕ) → byte_at i n < 256
byte_at-fits zero n = omega arith
byte_at-fits (suc i) n = let high = n / 256 ^ suc i in omega arith

AreBytes-high_first : (k n : ℕ) → AreBytes (bytes_high_first k n)
AreBytes-high_first zero n i = omega arith
AreBytes-high_first (suc k) n zero = byte_at-fits k n
AreBytes-high_first (suc k) n (suc i) = AreBytes-high_first k n i

AreBytes-digest : (hash : List ℕ) (n : ℕ) → AreBytes (digest_bytes hash n)
unfolding digest_bytes
AreBytes-digest hash zero i = omega arith
AreBytes-digest hash (suc n) i =
    AreBytes-append (digest_bytes hash n) (to_be_bytes w32 (slice_index hash n)) (AreBytes-digest hash n) (AreBytes-high_first 4 (slice_index hash n)) i

pub AreBytes-sha256 : (text : List ℕ) → AreBytes (sha256 text)
unfolding sha256
AreBytes-sha256 text = AreBytes-digest _ 8

AreBytes-long : (hash : List ℕ) (n : ℕ) → AreBytes (long.digest_bytes hash n)
unfolding long.digest_bytes
AreBytes-long hash zero i = omega arith
AreBytes-long hash (suc n) i =
    AreBytes-append (long.digest_bytes hash n) (to_be_bytes w64 (slice_index hash n)) (AreBytes-long hash n) (AreBytes-high_first 8 (slice_index hash n)) i

pub AreBytes-hash_by : (alg : Alg) (text : List ℕ) → AreBytes (hash_by alg text)
unfolding long.sha384 long.sha512
AreBytes-hash_by Alg.Hs256 text = AreBytes-sha256 text
AreBytes-hash_by Alg.Hs384 text = AreBytes-take 48 _ (AreBytes-long _ 8)
AreBytes-hash_by Alg.Hs512 text = AreBytes-long _ 8

pub AreBytes-mac : (key : AlgKey) (head body : List ℕ) → AreBytes (mac key head body)
AreBytes-mac key head body = AreBytes-hash_by key.alg _

pub length-mac : (key : AlgKey) (head body : List ℕ) → length (mac key head body) ≡ code_length key.alg
length-mac key head body = length-hash_by key.alg _
