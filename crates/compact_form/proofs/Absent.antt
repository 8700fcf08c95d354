-- Bytes that stand nowhere in a text.
use Rattle.std.proofs.Common.{◌≡◌, ℕ, ◌-◌, Bool, true, false, List, [], ◌∷◌, ◌++◌, Option, None, Some, length, get_or, drop, refl, ap, ◌∙◌, sym, arith}
use Rattle.std.specs.Prelude.{IfSome}
use Rattle.std.specs.List.{list_all, list_any, prefix_len, suffix_len, AllByRecursion}
use Rattle.std.proofs.lemmas.Bool.{and_parts, or_parts, false_from_ne_true, false≢true}
use Rattle.std.proofs.lemmas.List.{take_all}
use Rattle.std.proofs.lemmas.List.Folds.{list_any-append, list_any_at}
use Rattle.std.proofs.lemmas.List.Sums.{suffix_len_is}
use Rattle.b64url_text.specs.Base64url.{is_letter, IsWord}
use Rattle.compact_form.specs.declared.parts.JwtParts.{JwtParts}
use Rattle.compact_form.specs.declared.parts.Parts.{Parts}
use Rattle.compact_form.specs.Compact.{jwt, spelled, hashed, ending, compact, HasWords, AreWords}
use Rattle.compact_form.specs.Trim.{is_blank, without_front, without_back, trimmed}

-- what no letter and no dot passes
module _ (p : ℕ → Bool) (letter : (b : ℕ) → is_letter b ≡ true → p b ≡ false) (dot : p 46 ≡ false) where
  none_in_letters : (w : List ℕ) → list_all is_letter w ≡ true → list_any p w ≡ false
  none_in_letters [] h = refl
  none_in_letters (b ∷ w) h = let both = and_parts (is_letter b) (list_all is_letter w) h in rw (letter b both.0) (none_in_letters w both.1)

  none_in_jwt : (j : JwtParts) → HasWords j → list_any p (jwt j) ≡ false
  none_in_jwt j words =
      list_any-append p j.protected (46 ∷ (j.payload ++ (46 ∷ j.signature)))
      ∙ rw (
        none_in_letters j.protected words.protected.letters,
        dot,
        list_any-append p j.payload (46 ∷ j.signature),
        none_in_letters j.payload words.payload.letters,
        dot,
        none_in_letters j.signature words.signature.letters,
      ) refl

  pub none_in_ending : (b : Option JwtParts) → IfSome b HasWords → list_any p (ending b) ≡ false
  none_in_ending None words = refl
  none_in_ending (Some j) words = none_in_jwt j words

  none_in_spelled : p 126 ≡ false → (ds : List (List ℕ)) → AllByRecursion IsWord ds → list_any p (spelled ds) ≡ false
  none_in_spelled tilde [] words = refl
  none_in_spelled tilde (d ∷ ds) words =
      list_any-append p (d ++ (126 ∷ [])) (spelled ds)
      ∙ rw (list_any-append p d (126 ∷ []), none_in_letters d words.0.letters, tilde) (none_in_spelled tilde ds words.1)

  pub none_in_compact : p 126 ≡ false → (parts : Parts) → AreWords parts → list_any p (compact parts) ≡ false
  none_in_compact tilde parts words =
      list_any-append p (hashed parts) (ending parts.binding)
      ∙ rw (
        list_any-append p (jwt parts.signed) (126 ∷ spelled parts.disclosures),
        none_in_jwt parts.signed words.signed,
        tilde,
        none_in_spelled tilde parts.disclosures words.disclosures,
      ) (none_in_ending parts.binding words.binding)

no_front : (p : ℕ → Bool) (x : List ℕ) → list_any p x ≡ false → prefix_len p x ≡ 0
no_front p [] h = refl
no_front p (b ∷ x) h = rw (or_parts (p b) (list_any p x) h).0 refl

no_back : (p : ℕ → Bool) (x : List ℕ) → list_any p x ≡ false → suffix_len p x ≡ 0
no_back p x h =
    let is =
    suffix_len_is p x (length x) 0 (omega arith) (λ k from to. absurd (omega arith))
    (λ some. false_from_ne_true (p (get_or x (length x - 1) 0)) (λ passes. false≢true (sym h ∙ list_any_at p x (length x - 1) 0 (omega arith) passes)))
    in
    omega (arith, is)

-- a text with no blank has none at its ends
pub trimmed_bare : (x : List ℕ) → list_any is_blank x ≡ false → trimmed x ≡ x
trimmed_bare x h =
    let front : without_front x ≡ x = ap (λ (n : ℕ). drop n x) (no_front is_blank x h) in
    ap without_back front ∙ take_all (length x - suffix_len is_blank x) x (omega (arith, no_back is_blank x h))
