-- Base64url without padding, RFC 4648 section 5: the alphabet (table 2), the texts that are made of
-- its letters, and the text of bytes. There is no definition of decoding: it is the inverse.
use Rattle.std.specs.Prelude.{◌≡◌, ◌<◌, ℕ, ◌+◌, ◌*◌, ◌/◌, ◌%◌, ◌==◌, Bool, true, List, [], ◌∷◌, ◌++◌, map, length, slice_index, codes}
use Rattle.std.specs.List.{list_any, list_all}

-- the 64 letters
unfoldable pub letters : List ℕ
letters = codes "ABCDEFGHIJKLMNOPQRSTUVWXYZabcdefghijklmnopqrstuvwxyz0123456789-_"

unfoldable pub is_letter : ℕ → Bool
is_letter byte = list_any (λ letter. letter == byte) letters

-- a base64url text: one letter or more
pub record IsWord (text : List ℕ) : Type 0 where
  pub some : 0 < length text
  pub letters : list_all is_letter text ≡ true

-- the bits of a byte, the highest first
abbrev pub bits_of : ℕ → List ℕ
bits_of x =
    x / 128 % 2 ∷ x / 64 % 2 ∷ x / 32 % 2 ∷ x / 16 % 2 ∷ x / 8 % 2 ∷ x / 4 % 2 ∷ x / 2 % 2 ∷ x % 2
    ∷ []

-- the bits of the bytes, one byte after another
unfoldable pub bits : List ℕ → List ℕ
bits [] = []
bits (x ∷ bytes) = bits_of x ++ bits bytes

-- the number of six bits, the highest first
abbrev pub six : ℕ → ℕ → ℕ → ℕ → ℕ → ℕ → ℕ
six a b c d e f = 32 * a + 16 * b + 8 * c + 4 * d + 2 * e + f

-- the bits in groups of six, from the front, and the last group filled with zeros
unfoldable pub sixes : List ℕ → List ℕ
sixes [] = []
sixes (a ∷ []) = six a 0 0 0 0 0 ∷ []
sixes (a ∷ b ∷ []) = six a b 0 0 0 0 ∷ []
sixes (a ∷ b ∷ c ∷ []) = six a b c 0 0 0 ∷ []
sixes (a ∷ b ∷ c ∷ d ∷ []) = six a b c d 0 0 ∷ []
sixes (a ∷ b ∷ c ∷ d ∷ e ∷ []) = six a b c d e 0 ∷ []
sixes (a ∷ b ∷ c ∷ d ∷ e ∷ f ∷ more) = six a b c d e f ∷ sixes more

-- the text of bytes: the letter of each group
unfoldable pub b64 : List ℕ → List ℕ
b64 bytes = map (slice_index letters) (sixes (bits bytes))

abbrev pub AreBytes : List ℕ → Type 0
AreBytes bytes = (i : ℕ) → slice_index bytes i < 256

-- these are the bytes that have this text
pub record Decodes (text bytes : List ℕ) : Type 0 where
  pub fit : AreBytes bytes
  pub spelling : text ≡ b64 bytes
