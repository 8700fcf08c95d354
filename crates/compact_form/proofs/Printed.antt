-- The text that is printed of parts.
use Rattle.std.proofs.Common.{◌≡◌, ℕ, Bool, true, false, List, [], ◌∷◌, ◌++◌, refl, length, ap, ◌∙◌, sym, subst, arith, ◌≤◌, append_assoc}
use Rattle.std.specs.Prelude.{◌==◌, ◌&&◌, ◌||◌, not, nat_lt}
use Rattle.std.proofs.Math.Bool.{and-false}
use Rattle.std.proofs.lemmas.Bool.{le-ltb}
use Rattle.b64url_text.specs.Base64url.{letters, is_letter}
use Rattle.sd_outside.specs.Limits.{file_max, compact_max, count_max}
use Rattle.compact_form.specs.declared.parts.Parts.{Parts}
use Rattle.compact_form.specs.Compact.{jwt, spelled, hashed, ending, compact, AreWords, IsCompact, IsMisformedAt}
use Rattle.compact_form.specs.JwtCalls.{IsUpToLastTilde}
use Rattle.compact_form.specs.Trim.{is_blank, trimmed, is_json, is_too_long}
use Rattle.compact_form.specs.CompactToken.{ReadsCompact}
use Rattle.compact_form.proofs.Runs.{tilde}
use Rattle.compact_form.proofs.Spelled.{other_byte}
use Rattle.compact_form.proofs.Absent.{none_in_ending, none_in_compact, trimmed_bare}
use Rattle.compact_form.proofs.Unique.{one_spelling}
use Rattle.compact_form.proofs.Verdicts.{reads}

-- ---- the printed text is read as the same parts

pub is_compact : (parts : Parts) → AreWords parts → IsCompact parts (compact parts)
is_compact parts words = record { signed = words.signed; disclosures = words.disclosures; binding = words.binding; spelling = refl }

pub same_parts : (parts other : Parts) → AreWords parts → IsCompact other (compact parts) → other ≡ parts
same_parts parts other words is = one_spelling other parts (compact parts) is (is_compact parts words)

pub not_refused : (parts : Parts) (stop : ℕ) → AreWords parts → IsMisformedAt (compact parts) stop → ⊥
not_refused parts stop words refused = refused.no_parts parts (is_compact parts words)

-- ---- the last tilde

moved : (x d s : List ℕ) → x ++ (126 ∷ ((d ++ (126 ∷ [])) ++ s)) ≡ (x ++ (126 ∷ d)) ++ (126 ∷ s)
moved x d s = simp append_assoc

-- a tilde and disclosures end with a tilde
last_tilde : (x : List ℕ) (ds : List (List ℕ)) → (before : List ℕ) × (x ++ (126 ∷ spelled ds) ≡ before ++ (126 ∷ []))
last_tilde x [] = (x, refl)
last_tilde x (d ∷ ds) = let end = last_tilde (x ++ (126 ∷ d)) ds in (end.0, moved x d (spelled ds) ∙ end.1)

pub hashed_is_front : (parts : Parts) (text : List ℕ) → IsCompact parts text → IsUpToLastTilde text (hashed parts)
hashed_is_front parts text is =
    let end = last_tilde (jwt parts.signed) parts.disclosures in
    record {
      before = end.0;
      behind = ending parts.binding;
      tilde = end.1;
      cut = is.spelling;
      last = none_in_ending (λ byte. byte == 126) (λ b h. other_byte b 126 h tilde) refl parts.binding is.binding;
    }

-- ---- the printed text is read as it stands

pub no_blank : (b : ℕ) → is_letter b ≡ true → is_blank b ≡ false
unfolding is_letter letters
no_blank b h = rw (other_byte b 32 h refl, other_byte b 9 h refl, other_byte b 10 h refl, other_byte b 13 h refl) refl

neither : (a b c : Bool) → a ≡ false → c ≡ false → (a || (b && c)) ≡ false
neither a b c h k = rw (h, k) (and-false b)

short : (text : List ℕ) → trimmed text ≡ text → length text ≤ compact_max → is_too_long text ≡ false
short text bare small =
    neither (nat_lt file_max (length text)) (not (is_json (trimmed text))) (nat_lt compact_max (length (trimmed text)))
    (le-ltb file_max (length text) (omega arith))
    (le-ltb compact_max (length (trimmed text)) (omega (arith, ap length bare)))

pub reads_printed : (parts : Parts) → AreWords parts → length (compact parts) ≤ compact_max → length parts.disclosures ≤ count_max → ReadsCompact (compact parts) parts
reads_printed parts words small few =
    let text = compact parts in
    let bare : trimmed text ≡ text = trimmed_bare text (none_in_compact is_blank no_blank refl refl parts words) in
    reads text parts (short text bare small) (subst (IsCompact parts) (sym bare) (is_compact parts words)) few
