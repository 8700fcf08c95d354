-- The length of the text of bytes.
use Rattle.std.proofs.Common.{ℕ, ◌+◌, ◌*◌, ◌≤◌, List, [], ◌∷◌, length, arith}
use Rattle.b64url_text.specs.Base64url.{bits, sixes, b64}

-- four letters for three bytes
pub length-b64 : (bytes : List ℕ) → 3 * length (b64 bytes) ≤ 4 * length bytes + 2
unfolding b64 bits sixes
length-b64 [] = omega arith
length-b64 (a ∷ []) = omega arith
length-b64 (a ∷ b ∷ []) = omega arith
length-b64 (a ∷ b ∷ c ∷ rest) = omega (arith, length-b64 rest)
