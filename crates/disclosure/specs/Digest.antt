-- The digest of a disclosure, RFC 9901 section 4.2.3.
use Rattle.std.specs.Prelude.{ℕ, List, [], ◌∷◌, Option, None, Some, option_and_then, bytes_eq, codes, find}
use Rattle.sha2.specs.Sha256.{sha256}
use Rattle.sha2.specs.Sha512.{sha384, sha512}
use Rattle.b64url_text.specs.Base64url.{b64}
use Rattle.claim_tree.specs.Tree.{Text, Tree, get, text_of}
use Rattle.disclosure.specs.declared.digests.HashAlg.{HashAlg}

-- the name of an algorithm
abbrev pub hash_name : HashAlg → List ℕ
hash_name HashAlg.Sha256 = codes "sha-256"
hash_name HashAlg.Sha384 = codes "sha-384"
hash_name HashAlg.Sha512 = codes "sha-512"

-- those that are known
abbrev pub hash_algs : List HashAlg
hash_algs = HashAlg.Sha256 ∷ HashAlg.Sha384 ∷ HashAlg.Sha512 ∷ []

abbrev pub hash_of : HashAlg → List ℕ → List ℕ
hash_of HashAlg.Sha256 text = sha256 text
hash_of HashAlg.Sha384 text = sha384 text
hash_of HashAlg.Sha512 text = sha512 text

-- the base64url text of the hash of a text's bytes
abbrev pub digest_of : HashAlg → List ℕ → List ℕ
digest_of alg text = b64 (hash_of alg text)

-- the algorithm of this name
abbrev pub hash_of_text : Text → Option HashAlg
hash_of_text name = find (λ alg. bytes_eq name (hash_name alg)) hash_algs

-- that of the claim, or SHA-256 where there is none
abbrev pub hash_of_name : Option Tree → Option HashAlg
hash_of_name None = Some HashAlg.Sha256
hash_of_name (Some t) = option_and_then hash_of_text (text_of t)

-- the algorithm of a payload's digests, by its `_sd_alg` (RFC 9901 section 4.1.1)
abbrev pub payload_hash : Tree → Option HashAlg
payload_hash payload = hash_of_name (get payload (codes "_sd_alg"))
