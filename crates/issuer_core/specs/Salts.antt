-- The salts of a seed: the stream of ChaCha20 (RFC 8439) under the seed as its
-- key, cut into pieces of 16 bytes.
use Rattle.std.specs.Prelude.{ℕ, ◌+◌, ◌*◌, List, ◌++◌}
use Rattle.std.specs.Int.{w32, to_le_bytes}
use Rattle.rand_chacha.specs.ChaCha.{word_at, key_of}
use Rattle.b64url_text.specs.Base64url.{b64}
use Rattle.claim_tree.specs.Tree.{Text}

-- word i of the stream, its lowest byte first
abbrev pub word_bytes : List ℕ → ℕ → List ℕ
word_bytes seed i = to_le_bytes w32 (word_at 10 (key_of seed) 0 i)

-- the words 4k to 4k + 3
unfoldable pub salt_piece : List ℕ → ℕ → List ℕ
salt_piece seed k =
    word_bytes seed (4 * k)
    ++ (word_bytes seed (4 * k + 1) ++ (word_bytes seed (4 * k + 2) ++ word_bytes seed (4 * k + 3)))

-- the salt of disclosure k; behind those of the disclosures come those of the decoys
abbrev pub salt_of : List ℕ → ℕ → Text
salt_of seed k = b64 (salt_piece seed k)
