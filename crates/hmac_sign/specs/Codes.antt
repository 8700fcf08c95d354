-- For private functions: codes, and hashes in the making.
use Rattle.std.specs.Prelude.{◌≡◌, ℕ, List}
use Rattle.sha2.specs.Hashers.{Holds256, Holds384, Holds512}
use Rattle.hmac_sign.specs.declared.alg.Alg.{Alg}
use Rattle.hmac_sign.specs.declared.mac_code.Code.{Code}
use Rattle.hmac_sign.specs.declared.hasher.Hasher.{Hasher}

-- the bytes of a code
abbrev pub code_bytes : Code → List ℕ
code_bytes (Code.Sha256 code) = code
code_bytes (Code.Sha384 code) = code
code_bytes (Code.Sha512 code) = code

-- the algorithm whose hash is made
abbrev pub hasher_alg : Hasher → Alg
hasher_alg (Hasher.Sha256 hasher) = Alg.Hs256
hasher_alg (Hasher.Sha384 hasher) = Alg.Hs384
hasher_alg (Hasher.Sha512 hasher) = Alg.Hs512

-- the message so far
abbrev pub Holds : Hasher → List ℕ → Type 0
Holds (Hasher.Sha256 hasher) message = Holds256 hasher message
Holds (Hasher.Sha384 hasher) message = Holds384 hasher message
Holds (Hasher.Sha512 hasher) message = Holds512 hasher message

-- it is the hash of the algorithm, of this message so far
abbrev pub IsHashing : Hasher → Alg → List ℕ → Type 0
IsHashing hasher alg message = (hasher_alg hasher ≡ alg) × Holds hasher message
