-- A text with a line end behind it, without the blanks at its ends.
use Rattle.std.proofs.Common.{◌≡◌, ℕ, ◌-◌, ◌+◌, false, List, [], ◌∷◌, ◌++◌, length, length-append, get_or, drop, take, append_assoc, refl, sym, ap, ◌∙◌, arith}
use Rattle.std.specs.List.{list_any, list_all, prefix_len, suffix_len}
use Rattle.std.proofs.lemmas.Bool.{and_parts, or_parts, false_from_ne_true, false≢true}
use Rattle.std.proofs.lemmas.List.{get_or_append_left}
use Rattle.std.proofs.lemmas.List.Folds.{list_any_at}
use Rattle.std.proofs.lemmas.List.Sums.{suffix_len_is}
use Rattle.std.proofs.Math.Seq.{get_or-append_seam, take-append_seam}
use Rattle.b64url_text.specs.Base64url.{letters, is_letter, IsWord}
use Rattle.compact_form.specs.declared.parts.Parts.{Parts}
use Rattle.compact_form.specs.Compact.{spelled, ending, compact, AreWords}
use Rattle.compact_form.specs.Trim.{is_blank, without_back, trimmed, is_json}
use Rattle.compact_form.proofs.Absent.{none_in_compact}
use Rattle.compact_form.proofs.Printed.{no_blank}
use Rattle.compact_form.proofs.Spelled.{other_byte}

-- where neither its first byte nor its last is a blank
pub trimmed_line : (byte : ℕ) (rest : List ℕ) → is_blank byte ≡ false → is_blank (get_or (byte ∷ rest) (length rest) 0) ≡ false → trimmed (byte ∷ (rest ++ 10 ∷ [])) ≡ byte ∷ rest
trimmed_line byte rest first last =
    let x = byte ∷ rest in
    let whole = byte ∷ (rest ++ 10 ∷ []) in
    let longer : length whole ≡ length x + 1 = length-append x (10 ∷ []) in
    let front : prefix_len is_blank whole ≡ 0 = rw first refl in
    let back : suffix_len is_blank whole ≡ length whole - length x =
    suffix_len_is is_blank whole (length x) 0 (omega (arith, longer))
    (λ k from to. let at : k ≡ length x = omega (arith, from, to, longer) in rw (at, get_or-append_seam x 10 [] 0) refl)
    (λ some. let before : length x - 1 ≡ length rest = omega arith in rw before (ap is_blank (get_or_append_left x (10 ∷ []) 0 (length rest) (omega arith)) ∙ last)) in
    let kept : length whole - suffix_len is_blank whole ≡ length x = omega (arith, back, longer) in
    ap (λ (n : ℕ). without_back (drop n whole)) front ∙ (ap (λ (n : ℕ). take n whole) kept ∙ take-append_seam x (10 ∷ []))

no_blanks : (byte : ℕ) (rest : List ℕ) → list_any is_blank (byte ∷ rest) ≡ false → trimmed (byte ∷ (rest ++ 10 ∷ [])) ≡ byte ∷ rest
no_blanks byte rest none =
    trimmed_line byte rest (or_parts (is_blank byte) (list_any is_blank rest) none).0
    (false_from_ne_true (is_blank (get_or (byte ∷ rest) (length rest) 0)) (λ blank. false≢true (sym none ∙ list_any_at is_blank (byte ∷ rest) (length rest) 0 (omega arith) blank)))

-- the compact text of parts
pub printed_line : (parts : Parts) → AreWords parts → trimmed (compact parts ++ 10 ∷ []) ≡ compact parts
printed_line parts words = go (compact parts) (none_in_compact is_blank no_blank refl refl parts words)
  where
    go : (x : List ℕ) → list_any is_blank x ≡ false → trimmed (x ++ 10 ∷ []) ≡ x
    go [] none = refl
    go (byte ∷ rest) none = no_blanks byte rest none

no_brace : (w more : List ℕ) → IsWord w → is_json (w ++ more) ≡ false
unfolding is_letter letters
no_brace [] more word = absurd (omega (arith, word.some))
no_brace (byte ∷ w) more word = other_byte byte 123 (and_parts (is_letter byte) (list_all is_letter w) word.letters).0 refl

regrouped : (a b c d : List ℕ) → ((a ++ b) ++ c) ++ d ≡ a ++ (b ++ (c ++ d))
regrouped a b c d = simp append_assoc

-- it is no JSON text
pub printed_plainly : (parts : Parts) → AreWords parts → is_json (compact parts) ≡ false
printed_plainly parts words =
    let j = parts.signed in
    let more = 46 ∷ (j.payload ++ (46 ∷ j.signature)) in
    let behind = 126 ∷ spelled parts.disclosures in
    ap is_json (regrouped j.protected more behind (ending parts.binding)) ∙ no_brace j.protected (more ++ (behind ++ ending parts.binding)) words.signed.protected
