-- A text of UTF-8 is bytes, and base64url text is UTF-8.
use Rattle.std.proofs.Common.{◌≡◌, ℕ, zero, suc, ◌+◌, ◌/◌, ◌<◌, Bool, true, false, cond, List, [], ◌∷◌, inl, inr, refl, subst, arith}
use Rattle.std.specs.Prelude.{nat_lt}
use Rattle.std.specs.Str.{IsUtf8}
use Rattle.std.proofs.lemmas.Bool.{and_parts, ltb-true}
use Rattle.std.proofs.lemmas.Str.{IsUtf8-from_ascii}
use Rattle.std.proofs.Math.Utf8.{scalar, scalars, scalar_cases, encode, encodes, next}
use Rattle.b64url_text.specs.Base64url.{AreBytes, b64}
use Rattle.b64url_text.proofs.Codes.{AreBytes-append, letters-b64}
use Rattle.b64url_text.proofs.Words.{IsAscii-letters}

AreBytes-nil : AreBytes []
AreBytes-nil i = omega arith

AreBytes-cons : (x : ℕ) (xs : List ℕ) → x < 256 → AreBytes xs → AreBytes (x ∷ xs)
AreBytes-cons x xs h rest zero = h
AreBytes-cons x xs h rest (suc i) = rest i

-- a byte of a character behind its first
next_then : (n : ℕ) (xs : List ℕ) → AreBytes xs → AreBytes (next n ∷ xs)
next_then n xs = AreBytes-cons (next n) xs (omega arith)

one_byte : (n : ℕ) → AreBytes (next n ∷ [])
one_byte n = next_then n [] AreBytes-nil

two_bytes : (m n : ℕ) → AreBytes (next m ∷ next n ∷ [])
two_bytes m n = next_then m (next n ∷ []) (one_byte n)

three_bytes : (l m n : ℕ) → AreBytes (next l ∷ next m ∷ next n ∷ [])
three_bytes l m n = next_then l (next m ∷ next n ∷ []) (two_bytes m n)

char_cases : (one two three : Bool) (c : ℕ) → c < 1114112 → nat_lt c 128 ≡ one → nat_lt c 2048 ≡ two → nat_lt c 65536 ≡ three
    → AreBytes (cond one (c ∷ []) (cond two ((192 + c / 64) ∷ next c ∷ []) (cond three ((224 + c / 4096) ∷ next (c / 64) ∷ next c ∷ []) ((240 + c / 262144) ∷ next (c / 4096) ∷ next (c / 64) ∷ next c ∷ []))))
char_cases true two three c low e f g = AreBytes-cons c [] (omega (arith, ltb-true c 128 e)) AreBytes-nil
char_cases false true three c low e f g = AreBytes-cons (192 + c / 64) (next c ∷ []) (omega (arith, ltb-true c 2048 f)) (one_byte c)
char_cases false false true c low e f g = AreBytes-cons (224 + c / 4096) (next (c / 64) ∷ next c ∷ []) (omega (arith, ltb-true c 65536 g)) (two_bytes (c / 64) c)
char_cases false false false c low e f g =
    AreBytes-cons (240 + c / 262144) (next (c / 4096) ∷ next (c / 64) ∷ next c ∷ []) (omega (arith, low)) (three_bytes (c / 4096) (c / 64) c)

scalar_low : (c : ℕ) → scalar c ≡ true → c < 1114112
scalar_low c e = elim (scalar_cases c e) [ inl low ↦ omega arith | inr high ↦ high.1 ]

AreBytes-char : (c : ℕ) → scalar c ≡ true → AreBytes (encode c)
unfolding encode
AreBytes-char c e = char_cases (nat_lt c 128) (nat_lt c 2048) (nat_lt c 65536) c (scalar_low c e) refl refl refl

AreBytes-chars : (cs : List ℕ) → scalars cs ≡ true → AreBytes (encodes cs)
AreBytes-chars [] e = AreBytes-nil
AreBytes-chars (c ∷ cs) e = let p = and_parts (scalar c) (scalars cs) e in AreBytes-append (encode c) (encodes cs) (AreBytes-char c p.0) (AreBytes-chars cs p.1)

pub AreBytes-text : (text : List ℕ) → IsUtf8 text → AreBytes text
AreBytes-text text u = subst AreBytes u.1.1 (AreBytes-chars u.0 u.1.0)

-- and base64url text is UTF-8
pub b64_utf8 : (bytes : List ℕ) → IsUtf8 (b64 bytes)
b64_utf8 bytes = IsUtf8-from_ascii (b64 bytes) (IsAscii-letters (b64 bytes) (letters-b64 bytes))
