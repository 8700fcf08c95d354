-- Groups of six bits, three bytes at a time.
use Rattle.std.proofs.Common.{◌≡◌, ℕ, suc, ◌+◌, ◌*◌, ◌/◌, ◌%◌, ◌<◌, List, [], ◌∷◌, map, slice_index, refl, arith}
use Rattle.base64.specs.Rfc4648.{encode_symbols}
use Rattle.b64url_text.specs.Base64url.{bits, six, sixes, AreBytes}

six_high : (a : ℕ) → a < 256 → six (a / 128 % 2) (a / 64 % 2) (a / 32 % 2) (a / 16 % 2) (a / 8 % 2) (a / 4 % 2) ≡ a / 4
six_high a h = omega arith

four_high : (b : ℕ) → b < 256 → 8 * (b / 128 % 2) + 4 * (b / 64 % 2) + 2 * (b / 32 % 2) + b / 16 % 2 ≡ b / 16
four_high b h = omega arith

two_high : (c : ℕ) → c < 256 → 2 * (c / 128 % 2) + c / 64 % 2 ≡ c / 64
two_high c h = omega arith

two_low : (a : ℕ) → six (a / 2 % 2) (a % 2) 0 0 0 0 ≡ a % 4 * 16
two_low a = omega arith

four_low : (b : ℕ) → six (b / 8 % 2) (b / 4 % 2) (b / 2 % 2) (b % 2) 0 0 ≡ b % 16 * 4
four_low b = omega arith

six_low : (c : ℕ) → six (c / 32 % 2) (c / 16 % 2) (c / 8 % 2) (c / 4 % 2) (c / 2 % 2) (c % 2) ≡ c % 64
six_low c = omega arith

-- two bits of a byte and four of the next
two_four : (a b : ℕ) → b < 256 → six (a / 2 % 2) (a % 2) (b / 128 % 2) (b / 64 % 2) (b / 32 % 2) (b / 16 % 2) ≡ a % 4 * 16 + b / 16
two_four a b h = omega (arith, two_low a, four_high b h)

-- four and two
four_two : (b c : ℕ) → c < 256 → six (b / 8 % 2) (b / 4 % 2) (b / 2 % 2) (b % 2) (c / 128 % 2) (c / 64 % 2) ≡ b % 16 * 4 + c / 64
four_two b c h = omega (arith, four_low b, two_high c h)

-- the letters of the groups are those of the crate `base64`
pub symbols_of : (table bytes : List ℕ) → AreBytes bytes → map (slice_index table) (sixes (bits bytes)) ≡ encode_symbols table bytes
unfolding sixes bits encode_symbols
symbols_of t [] h = refl
symbols_of t (a ∷ []) h = rw (six_high a (h 0), two_low a) refl
symbols_of t (a ∷ b ∷ []) h = rw (six_high a (h 0), two_four a b (h 1), four_low b) refl
symbols_of t (a ∷ b ∷ c ∷ rest) h =
    rw (six_high a (h 0), two_four a b (h 1), four_two b c (h 2), six_low c, symbols_of t rest (λ i. h (suc (suc (suc i))))) refl
