-- The text of a JWT that stands alone, cut at its dots.
use Rattle.std.proofs.Common.{◌≡◌, ◌≢◌, ℕ, zero, suc, ◌<◌, true, false, List, [], ◌∷◌, ◌++◌, Option, Bor, length, get_or, MatchOption, ap, ◌∙◌, sym, subst, arith}
use Rattle.std.specs.List.{list_all}
use Rattle.std.proofs.lemmas.Bool.{and_parts}
use Rattle.std.proofs.lemmas.Str.Pattern.{IsSplitOnceResult, split_after}
use Rattle.b64url_text.specs.Base64url.{is_letter, IsWord}
use Rattle.compact_form.specs.declared.parts.JwtParts.{JwtParts}
use Rattle.compact_form.specs.Compact.{HasWords}
use Rattle.compact_form.specs.JwtCalls.{IsJwt}
use Rattle.compact_form.proofs.Runs.{dot}

no_dot : (w : List ℕ) → list_all is_letter w ≡ true → (i : ℕ) → i < length w → get_or w i 0 ≢ 46
no_dot [] h i within e = absurd (omega arith)
no_dot (b ∷ w) h zero within e =
    let letter : is_letter 46 ≡ true = ap is_letter (sym e) ∙ (and_parts (is_letter b) (list_all is_letter w) h).0 in
    let clash : true ≡ false = sym letter ∙ dot in
    cc clash
no_dot (b ∷ w) h (suc i) within e = no_dot w (and_parts (is_letter b) (list_all is_letter w) h).1 i (omega arith) e

-- the first dot stands behind the first word
pub first_cut : (j : JwtParts) (text : List ℕ) (r : Option (Bor (List ℕ) × Bor (List ℕ))) → IsJwt j text → IsSplitOnceResult 46 text r
    → MatchOption r ⊥ (λ x. (x.0.now ≡ j.protected) × (x.1.now ≡ j.payload ++ (46 ∷ j.signature)))
first_cut j text r is cut = split_after 46 text j.protected (j.payload ++ (46 ∷ j.signature)) r cut (omega arith) is.spelling (no_dot j.protected is.words.protected.letters)

-- the next one stands behind the second
pub second_cut : (j : JwtParts) (text rest : List ℕ) (r : Option (Bor (List ℕ) × Bor (List ℕ))) → IsJwt j text → rest ≡ j.payload ++ (46 ∷ j.signature) → IsSplitOnceResult 46 rest r
    → MatchOption r ⊥ (λ x. (x.0.now ≡ j.payload) × (x.1.now ≡ j.signature))
second_cut j text rest r is behind cut = split_after 46 rest j.payload j.signature r cut (omega arith) behind (no_dot j.payload is.words.payload.letters)

pub same_words : (view j : JwtParts) → view.protected ≡ j.protected → view.payload ≡ j.payload → view.signature ≡ j.signature → HasWords j → HasWords view
same_words view j p q s words =
    record { protected = subst IsWord (sym p) words.protected; payload = subst IsWord (sym q) words.payload; signature = subst IsWord (sym s) words.signature }
