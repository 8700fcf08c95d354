-- Whether the first of some words is a name.
use Rattle.std.proofs.Common.{◌≡◌, Global, String, Bool, ℕ, ◌≤◌, List, [], ◌∷◌, length, map, get_or, string_bytes, sym, ap, ◌∙◌, arith}
use Rattle.std.specs.Prelude.{◌↔◌, IsTrue, bytes_eq}
use Rattle.std.proofs.lemmas.Slice.Eq.{bytes_eq-Decides}

pub first_is : (words : List (String Global)) (word : String Global) (said name : List ℕ) (same : Bool) → 1 ≤ length words → word ≡ get_or words 0 word → said ≡ string_bytes word → same ≡ bytes_eq said name
    → IsTrue same ↔ ((rest : List (List ℕ)) × (map string_bytes words ≡ name ∷ rest))
first_is [] word said name same long is text tells = absurd (omega (arith, long))
first_is (w ∷ words) word said name same long is text tells = (yes, no)
  where
    yes : IsTrue same → (rest : List (List ℕ)) × (map string_bytes (w ∷ words) ≡ name ∷ rest)
    yes h =
        let first : string_bytes w ≡ name = sym (ap string_bytes is) ∙ (sym text ∙ (bytes_eq-Decides said name).0 (sym tells ∙ h)) in
        (map string_bytes words, ap (λ (x : List ℕ). x ∷ map string_bytes words) first)

    no : (rest : List (List ℕ)) × (map string_bytes (w ∷ words) ≡ name ∷ rest) → IsTrue same
    no named =
        let both : string_bytes w ∷ map string_bytes words ≡ name ∷ named.0 = named.1 in
        let first : string_bytes w ≡ name = cc both in
        tells ∙ (bytes_eq-Decides said name).1 (text ∙ (ap string_bytes is ∙ first))
