-- The word at the front of a text that is known to begin with a word.
use Rattle.std.proofs.Common.{◌≡◌, ℕ, ◌+◌, true, false, List, [], ◌∷◌, ◌++◌, None, Some, length, take, drop, refl, ap, ◌∙◌, sym, arith, append_assoc, length-append}
use Rattle.std.specs.Prelude.{slice_get}
use Rattle.std.specs.List.{list_all}
use Rattle.std.proofs.lemmas.Bool.{and_parts}
use Rattle.std.proofs.lemmas.List.{take_at, drop_at, take_all, drop_all}
use Rattle.b64url_text.proofs.Words.{prefix_len-letters}
use Rattle.b64url_text.specs.Base64url.{is_letter}
use Rattle.compact_form.proofs.FrontWords.{word_len, front_word, behind_word}

-- a word, a byte that is no letter, and more
pub record Front (x w more : List ℕ) (c : ℕ) : Type 0 where
  pub front : front_word x ≡ w
  pub behind : behind_word x ≡ more
  pub byte : slice_get x (word_len x) ≡ Some c

len_at : (w more : List ℕ) (c : ℕ) → list_all is_letter w ≡ true → is_letter c ≡ false → word_len (w ++ (c ∷ more)) ≡ length w
len_at [] more c h e = rw e refl
len_at (b ∷ w) more c h e = let p = and_parts (is_letter b) (list_all is_letter w) h in rw p.0 (omega (arith, len_at w more c p.1 e))

get_at : (w more : List ℕ) (c : ℕ) → slice_get (w ++ (c ∷ more)) (length w) ≡ Some c
get_at [] more c = refl
get_at (b ∷ w) more c = get_at w more c

pub front_at : (x w more : List ℕ) (c : ℕ) → list_all is_letter w ≡ true → is_letter c ≡ false → x ≡ w ++ (c ∷ more) → Front x w more c
front_at x w more c h e is =
    let n : word_len x ≡ length w = ap word_len is ∙ len_at w more c h e in
    let split : x ≡ (w ++ (c ∷ [])) ++ more = is ∙ sym (append_assoc w (c ∷ []) more) in
    record {
      front = ap (take (word_len x)) is ∙ take_at w (c ∷ more) (word_len x) (sym n);
      behind = ap (drop (word_len x + 1)) split ∙ drop_at (w ++ (c ∷ [])) more (word_len x + 1) (omega (arith, length-append w (c ∷ [])));
      byte = ap (λ (y : List ℕ). slice_get y (word_len x)) is ∙ ap (slice_get (w ++ (c ∷ more))) n ∙ get_at w more c;
    }

-- a word and nothing more
pub record Last (x w : List ℕ) : Type 0 where
  pub front : front_word x ≡ w
  pub behind : behind_word x ≡ []
  pub byte : slice_get x (word_len x) ≡ None

get_past : (w : List ℕ) → slice_get w (length w) ≡ None
get_past [] = refl
get_past (b ∷ w) = get_past w

pub last_at : (x w : List ℕ) → list_all is_letter w ≡ true → x ≡ w → Last x w
last_at x w h is =
    let n : word_len x ≡ length w = ap word_len is ∙ prefix_len-letters w h in
    record {
      front = take_all (word_len x) x (omega (arith, ap length is)) ∙ is;
      behind = drop_all (word_len x + 1) x (omega (arith, ap length is));
      byte = ap (λ (y : List ℕ). slice_get y (word_len x)) is ∙ ap (slice_get w) n ∙ get_past w;
    }
