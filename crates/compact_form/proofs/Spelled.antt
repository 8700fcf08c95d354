-- Pieces of a text, each before its tilde.
use Rattle.std.proofs.Common.{◌≡◌, ℕ, ◌+◌, ◌<◌, Bool, true, false, List, [], ◌∷◌, ◌++◌, length, take, drop, refl, ap, ◌∙◌, sym, subst, arith, append_assoc, length-append}
use Rattle.std.specs.Prelude.{◌==◌}
use Rattle.std.specs.List.{list_all, AllByRecursion, position_or_len, before_first, after_first}
use Rattle.std.proofs.lemmas.Bool.{and_parts, ne_eqb}
use Rattle.std.proofs.lemmas.List.{take_at, drop_at}
use Rattle.b64url_text.specs.Base64url.{is_letter, IsWord}
use Rattle.compact_form.specs.Compact.{spelled}
use Rattle.compact_form.specs.Views.{longer, pieces_of, IsSpelled}
use Rattle.compact_form.proofs.Runs.{tilde}

-- a letter is no other byte
pub other_byte : (b c : ℕ) → is_letter b ≡ true → is_letter c ≡ false → (b == c) ≡ false
other_byte b c h k = ne_eqb b c (λ e. let p : is_letter c ≡ true = ap is_letter (sym e) ∙ h in cc)

no_tilde : (b : ℕ) → is_letter b ≡ true → (b == 126) ≡ false
no_tilde b h = other_byte b 126 h tilde

piece_front : (d x : List ℕ) → list_all is_letter d ≡ true → pieces_of (d ++ (126 ∷ x)) ≡ d ∷ pieces_of x
unfolding pieces_of
piece_front [] x h = refl
piece_front (b ∷ d) x h = let p = and_parts (is_letter b) (list_all is_letter d) h in rw (no_tilde b p.0) (ap (longer b) (piece_front d x p.1))

no_pieces : pieces_of [] ≡ []
unfolding pieces_of
no_pieces = refl

-- the pieces of words that are spelled are these words
pub pieces_of-spelled : (ds : List (List ℕ)) → AllByRecursion IsWord ds → pieces_of (spelled ds) ≡ ds
pieces_of-spelled [] words = no_pieces
pieces_of-spelled (d ∷ ds) words =
    let regrouped : spelled (d ∷ ds) ≡ d ++ (126 ∷ spelled ds) = simp append_assoc in
    ap pieces_of regrouped ∙ piece_front d (spelled ds) words.0.letters ∙ ap (λ (x : List (List ℕ)). d ∷ x) (pieces_of-spelled ds words.1)

pub IsSpelled-spelled : (ds : List (List ℕ)) → AllByRecursion IsWord ds → IsSpelled (spelled ds)
IsSpelled-spelled ds words =
    let is = pieces_of-spelled ds words in
    record { words = subst (AllByRecursion IsWord) (sym is) words; spelling = ap spelled (sym is) }

abbrev pub is_tilde : ℕ → Bool
is_tilde b = b == 126

pub first_tilde : (d x : List ℕ) → list_all is_letter d ≡ true → position_or_len is_tilde (d ++ (126 ∷ x)) ≡ length d
first_tilde [] x h = refl
first_tilde (b ∷ d) x h = let p = and_parts (is_letter b) (list_all is_letter d) h in rw (no_tilde b p.0) (omega (arith, first_tilde d x p.1))

-- the first piece, and what stands behind its tilde
pub record Next (x before after : List ℕ) : Type 0 where
  pub pieces : pieces_of x ≡ before ∷ pieces_of after
  pub spelling : IsSpelled after

next_of : (x before after : List ℕ) (ds : List (List ℕ)) → AllByRecursion IsWord ds → x ≡ spelled ds → pieces_of x ≡ ds
    → before ≡ before_first is_tilde x → after ≡ after_first is_tilde x → position_or_len is_tilde x < length x → Next x before after
next_of x before after [] words is all b a l =
    let none : length x ≡ 0 = ap length is in
    absurd (omega arith)
next_of x before after (d ∷ ds) words is all b a l =
    let regrouped : x ≡ d ++ (126 ∷ spelled ds) = is ∙ simp append_assoc in
    let place : position_or_len is_tilde x ≡ length d = ap (position_or_len is_tilde) regrouped ∙ first_tilde d (spelled ds) words.0.letters in
    let front : before ≡ d = b ∙ ap (λ (n : ℕ). take n x) place ∙ ap (take (length d)) regrouped ∙ take_at d (126 ∷ spelled ds) (length d) refl in
    let cut : x ≡ (d ++ (126 ∷ [])) ++ spelled ds = is in
    let behind : after ≡ spelled ds = a ∙ ap (λ (n : ℕ). drop (n + 1) x) place ∙ ap (drop (length d + 1)) cut ∙ drop_at (d ++ (126 ∷ [])) (spelled ds) (length d + 1) (omega (arith, length-append d (126 ∷ []))) in
    record {
      pieces = all ∙ ap (λ (w : List ℕ). w ∷ ds) (sym front) ∙ ap (λ (r : List (List ℕ)). before ∷ r) (sym (ap pieces_of behind ∙ pieces_of-spelled ds words.1));
      spelling = subst IsSpelled (sym behind) (IsSpelled-spelled ds words.1);
    }

pub next_piece : (x before after : List ℕ) → IsSpelled x → before ≡ before_first is_tilde x → after ≡ after_first is_tilde x → position_or_len is_tilde x < length x → Next x before after
next_piece x before after s b a l = next_of x before after (pieces_of x) s.words s.spelling refl b a l

none_of : (x : List ℕ) (ds : List (List ℕ)) → AllByRecursion IsWord ds → x ≡ spelled ds → position_or_len is_tilde x ≡ length x → ds ≡ []
none_of x [] words is h = refl
none_of x (d ∷ ds) words is h =
    let regrouped : x ≡ d ++ (126 ∷ spelled ds) = is ∙ simp append_assoc in
    let place : position_or_len is_tilde x ≡ length d = ap (position_or_len is_tilde) regrouped ∙ first_tilde d (spelled ds) words.0.letters in
    absurd (omega (arith, ap length regrouped, length-append d (126 ∷ spelled ds)))

pub no_piece_left : (x : List ℕ) → IsSpelled x → position_or_len is_tilde x ≡ length x → pieces_of x ≡ []
no_piece_left x s h = none_of x (pieces_of x) s.words s.spelling h
