-- Words, and the word at the front of any text.
use Rattle.std.proofs.Common.{◌≡◌, ◌↔◌, ◌<◌, ℕ, zero, suc, ◌+◌, Bool, true, false, cond, eqb, List, [], ◌∷◌, take, length, refl, sym, ap, ◌∙◌, arith}
use Rattle.std.specs.Prelude.{IsTrue}
use Rattle.std.specs.List.{list_all, prefix_len}
use Rattle.std.specs.Str.{IsAscii}
use Rattle.std.proofs.lemmas.Bool.{and_from, and_parts, eq-eqb, eqb-true}
use Rattle.std.proofs.lemmas.List.{take_all}
use Rattle.b64url_text.specs.Base64url.{is_letter, IsWord}
use Rattle.b64url_text.proofs.Letters.{letter_below}

taken : (b : Bool) (x : ℕ) (xs : List ℕ) → is_letter x ≡ b → list_all is_letter (take (prefix_len is_letter xs) xs) ≡ true
    → list_all is_letter (take (cond b (1 + prefix_len is_letter xs) 0) (x ∷ xs)) ≡ true
taken true x xs e h =
    let n : 1 + prefix_len is_letter xs ≡ suc (prefix_len is_letter xs) = omega arith in
    rw n (and_from (is_letter x) (list_all is_letter (take (prefix_len is_letter xs) xs)) e h)
taken false x xs e h = refl

-- what stands at the front is letters
pub front_letters : (x : List ℕ) → list_all is_letter (take (prefix_len is_letter x) x) ≡ true
front_letters [] = refl
front_letters (b ∷ x) = taken (is_letter b) b x refl (front_letters x)

-- a text of letters is its own front
pub prefix_len-letters : (w : List ℕ) → list_all is_letter w ≡ true → prefix_len is_letter w ≡ length w
prefix_len-letters [] h = refl
prefix_len-letters (b ∷ w) h = let p = and_parts (is_letter b) (list_all is_letter w) h in rw p.0 (omega (arith, prefix_len-letters w p.1))

-- a text of letters is ASCII
pub IsAscii-letters : (w : List ℕ) → list_all is_letter w ≡ true → IsAscii w
IsAscii-letters [] h i = omega arith
IsAscii-letters (b ∷ w) h zero = letter_below b (and_parts (is_letter b) (list_all is_letter w) h).0
IsAscii-letters (b ∷ w) h (suc i) = IsAscii-letters w (and_parts (is_letter b) (list_all is_letter w) h).1 i

-- a text is a word where it is its own front
pub tells_word : (x : List ℕ) (n : ℕ) → 0 < length x → n ≡ prefix_len is_letter x → IsTrue (eqb n (length x)) ↔ IsWord x
tells_word x n some counted = (
  λ h.
      let whole : prefix_len is_letter x ≡ length x = sym counted ∙ eqb-true n (length x) h in
      record { some = some; letters = ap (list_all is_letter) (sym (take_all (prefix_len is_letter x) x (omega arith))) ∙ front_letters x },
  λ is. eq-eqb n (length x) (counted ∙ prefix_len-letters x is.letters),
)
