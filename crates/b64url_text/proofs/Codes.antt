-- The text of bytes.
use Rattle.std.proofs.Common.{◌≡◌, ℕ, zero, suc, ◌/◌, ◌%◌, ◌<◌, true, List, [], ◌∷◌, ◌++◌, length, take, slice_index, refl, ap, sym, ◌∙◌, arith}
use Rattle.std.specs.Prelude.{Ok, Err}
use Rattle.std.specs.List.{list_all}
use Rattle.std.proofs.lemmas.Bool.{agree_below_at}
use Rattle.std.proofs.lemmas.List.{append-nil}
use Rattle.base64.specs.Rfc4648.{encode_symbols}
use Rattle.base64.specs.GeneralPurpose.{encode_of, decode_of}
use Rattle.base64.specs.Engines.{url_safe_no_pad}
use Rattle.base64.specs.declared.decode.DecodeError.{DecodeError}
use Rattle.base64.proofs.EngineFacts.{decode_of-encode_of, decode_of_strict}
use Rattle.b64url_text.specs.Base64url.{letters, is_letter, IsWord, bits, six, sixes, b64, AreBytes, Decodes}
use Rattle.b64url_text.specs.NotBase64.{IsNotBase64}
use Rattle.b64url_text.proofs.Sixes.{symbols_of}

-- it is what the engine of the crate `base64` writes
pub b64-engine : (bytes : List ℕ) → AreBytes bytes → b64 bytes ≡ encode_of url_safe_no_pad bytes
unfolding b64 letters
b64-engine x h = symbols_of letters x h ∙ sym (append-nil (encode_symbols letters x))

-- what the engine decodes has this text
pub decoded : (text bytes : List ℕ) → AreBytes text → AreBytes bytes → decode_of url_safe_no_pad text ≡ Ok bytes → Decodes text bytes
decoded s x hs hx e = record { fit = hx; spelling = decode_of_strict url_safe_no_pad s x (refl, refl) hs e ∙ sym (b64-engine x hx) }

back : (text bytes : List ℕ) → Decodes text bytes → decode_of url_safe_no_pad text ≡ Ok bytes
back s x d = ap (decode_of url_safe_no_pad) (d.spelling ∙ b64-engine x d.fit) ∙ decode_of-encode_of url_safe_no_pad x refl d.fit

-- what the engine refuses is the text of no bytes
pub refused : (text : List ℕ) (error : DecodeError) → decode_of url_safe_no_pad text ≡ Err error → IsNotBase64 text
refused s f e x d = let both = sym e ∙ back s x d in cc both

-- a text is that of one list of bytes
pub one_code : (text x y : List ℕ) → Decodes text x → Decodes text y → x ≡ y
one_code s x y dx dy = let both = sym (back s x dx) ∙ back s y dy in cc both

-- the front of bytes is bytes
pub AreBytes-take : (n : ℕ) (bytes : List ℕ) → AreBytes bytes → AreBytes (take n bytes)
AreBytes-take zero x h i = omega arith
AreBytes-take (suc n) [] h i = h i
AreBytes-take (suc n) (a ∷ x) h zero = h 0
AreBytes-take (suc n) (a ∷ x) h (suc i) = AreBytes-take n x (λ j. h (suc j)) i

pub AreBytes-append : (bytes more : List ℕ) → AreBytes bytes → AreBytes more → AreBytes (bytes ++ more)
AreBytes-append [] y hx hy i = hy i
AreBytes-append (a ∷ x) y hx hy zero = hx 0
AreBytes-append (a ∷ x) y hx hy (suc i) = AreBytes-append x y (λ j. hx (suc j)) hy i

letter_at : (n : ℕ) → n < 64 → is_letter (slice_index letters n) ≡ true
unfolding is_letter letters
letter_at n h = agree_below_at (λ k. is_letter (slice_index letters k)) (λ k. true) 64 n refl h

-- six bits make a letter
letter_of : (a b c d e f : ℕ) → is_letter (slice_index letters (six (a % 2) (b % 2) (c % 2) (d % 2) (e % 2) (f % 2))) ≡ true
letter_of a b c d e f = letter_at (six (a % 2) (b % 2) (c % 2) (d % 2) (e % 2) (f % 2)) (omega arith)

-- it is made of letters
pub letters-b64 : (bytes : List ℕ) → list_all is_letter (b64 bytes) ≡ true
unfolding b64 bits sixes
letters-b64 [] = refl
letters-b64 (a ∷ []) =
    rw (letter_of (a / 128) (a / 64) (a / 32) (a / 16) (a / 8) (a / 4), letter_of (a / 2) a 0 0 0 0) refl
letters-b64 (a ∷ b ∷ []) =
    rw (letter_of (a / 128) (a / 64) (a / 32) (a / 16) (a / 8) (a / 4), letter_of (a / 2) a (b / 128) (b / 64) (b / 32) (b / 16), letter_of (b / 8) (b / 4) (b / 2) b 0 0) refl
letters-b64 (a ∷ b ∷ c ∷ rest) =
    rw (
      letter_of (a / 128) (a / 64) (a / 32) (a / 16) (a / 8) (a / 4),
      letter_of (a / 2) a (b / 128) (b / 64) (b / 32) (b / 16),
      letter_of (b / 8) (b / 4) (b / 2) b (c / 128) (c / 64),
      letter_of (c / 32) (c / 16) (c / 8) (c / 4) (c / 2) c,
    ) (letters-b64 rest)

some : (bytes : List ℕ) → 0 < length bytes → 0 < length (b64 bytes)
unfolding b64 bits sixes
some [] h = h
some (a ∷ []) h = omega arith
some (a ∷ b ∷ []) h = omega arith
some (a ∷ b ∷ c ∷ rest) h = omega arith

-- the text of one byte or more is a word
pub IsWord-b64 : (bytes : List ℕ) → 0 < length bytes → IsWord (b64 bytes)
IsWord-b64 x h = record { some = some x h; letters = letters-b64 x }
