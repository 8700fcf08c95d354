-- The algorithms of signatures, RFC 7518 section 3.2: the name of each, its
-- hash, and how long its blocks, codes and keys are.
use Rattle.std.specs.Prelude.{ℕ, List, [], ◌∷◌, Option, bytes_eq, codes, find}
use Rattle.sd_outside.specs.Limits.{key_min}
use Rattle.sha2.specs.Sha256.{sha256}
use Rattle.sha2.specs.Sha512.{sha384, sha512}
use Rattle.claim_tree.specs.Tree.{Text}
use Rattle.hmac_sign.specs.declared.alg.Alg.{Alg}

-- the name of an algorithm
abbrev pub alg_text : Alg → Text
alg_text Alg.Hs256 = codes "HS256"
alg_text Alg.Hs384 = codes "HS384"
alg_text Alg.Hs512 = codes "HS512"

-- those that are known
abbrev pub algs : List Alg
algs = Alg.Hs256 ∷ Alg.Hs384 ∷ Alg.Hs512 ∷ []

-- the algorithm of this name
abbrev pub alg_of_text : Text → Option Alg
alg_of_text name = find (λ alg. bytes_eq name (alg_text alg)) algs

-- the hash of each
abbrev pub hash_by : Alg → List ℕ → List ℕ
hash_by Alg.Hs256 text = sha256 text
hash_by Alg.Hs384 text = sha384 text
hash_by Alg.Hs512 text = sha512 text

-- the bytes of a block of this hash (FIPS 180-4)
abbrev pub block_length : Alg → ℕ
block_length Alg.Hs256 = 64
block_length Alg.Hs384 = 128
block_length Alg.Hs512 = 128

-- the fewest bytes of a key: as many as the hash has
abbrev pub key_least : Alg → ℕ
key_least Alg.Hs256 = key_min
key_least Alg.Hs384 = 48
key_least Alg.Hs512 = 64
