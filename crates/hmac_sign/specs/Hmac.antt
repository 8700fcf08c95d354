-- HMAC, RFC 2104, and the signatures HS256, HS384 and HS512, RFC 7515 section 5
-- and RFC 7518 section 3.2.
use Rattle.std.specs.Prelude.{◌≡◌, ℕ, ◌-◌, List, ◌++◌, map, length, replicate, bit_xor, nat_lt, codes, if◌then◌else◌}
use Rattle.b64url_text.specs.Base64url.{Decodes}
use Rattle.hmac_sign.specs.Algs.{hash_by, block_length}
use Rattle.hmac_sign.specs.declared.alg.Alg.{Alg}

-- filled with zeros to so many bytes
abbrev pub filled : ℕ → List ℕ → List ℕ
filled size key = key ++ replicate (size - length key) 0

-- the key as a block: a key longer than a block is hashed first
abbrev pub key_block : Alg → List ℕ → List ℕ
key_block alg key =
    filled (block_length alg)
    (if nat_lt (block_length alg) (length key) then hash_by alg key else key)

-- each byte combined with one byte by exclusive or
abbrev pub xored : List ℕ → ℕ → List ℕ
xored block pad = map (λ byte. bit_xor byte pad) block

-- the HMAC of a text under a key
abbrev pub hmac : Alg → List ℕ → List ℕ → List ℕ
hmac alg key text =
    hash_by alg
    (xored (key_block alg key) 0x5c ++ hash_by alg (xored (key_block alg key) 0x36 ++ text))

-- what contracts see of a key: its algorithm, and the block that is made of it
pub record AlgKey : Type 0 where
  pub alg : Alg
  pub block : List ℕ

-- the key of these bytes for an algorithm
abbrev pub alg_key : Alg → List ℕ → AlgKey
alg_key alg key = record { alg = alg; block = key_block alg key }

-- the key of HS256 whose block this is
abbrev pub hs256_key : List ℕ → AlgKey
hs256_key block = record { alg = Alg.Hs256; block = block }

-- the HMAC of a head, a full stop and a body
abbrev pub mac : AlgKey → List ℕ → List ℕ → List ℕ
mac key head body = hmac key.alg key.block (head ++ (codes "." ++ body))

-- the signature is good for the head and the body under the key
abbrev pub IsGood : AlgKey → List ℕ → List ℕ → List ℕ → Type 0
IsGood key head body signature = signature ≡ mac key head body

-- the text is the base64url text of a good signature, as it stands in a JWS (RFC 7515 section 5.2)
abbrev pub IsGoodText : AlgKey → List ℕ → List ℕ → List ℕ → Type 0
IsGoodText key head body text =
    (signature : List ℕ) × Decodes text signature × IsGood key head body signature
