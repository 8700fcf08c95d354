-- Base64url letters stand for themselves in a JSON text.
use Rattle.std.proofs.Common.{◌≡◌, ℕ, true, List, [], ◌∷◌, ◌||◌, refl, subst}
use Rattle.std.specs.Prelude.{not, bytes_eq}
use Rattle.std.specs.List.{list_all}
use Rattle.std.proofs.lemmas.Bool.{agree_below_at, and_parts}
use Rattle.std.proofs.lemmas.Slice.Eq.{bytes_eq-Decides}
use Rattle.json.specs.Print.{escape, escape_byte}
use Rattle.b64url_text.specs.Base64url.{letters, is_letter}
use Rattle.b64url_text.proofs.Letters.{letter_below}

plain_letter : (b : ℕ) → is_letter b ≡ true → escape_byte b ≡ b ∷ []
unfolding is_letter letters escape_byte
plain_letter b h =
    let each = agree_below_at (λ x. not (is_letter x) || bytes_eq (escape_byte x) (x ∷ [])) (λ x. true) 128 b refl (letter_below b h) in
    (bytes_eq-Decides (escape_byte b) (b ∷ [])).0 (subst (λ is. (not is || bytes_eq (escape_byte b) (b ∷ [])) ≡ true) h each)

pub plain_letters : (w : List ℕ) → list_all is_letter w ≡ true → escape w ≡ w
plain_letters [] h = refl
plain_letters (b ∷ w) h = let p = and_parts (is_letter b) (list_all is_letter w) h in rw (plain_letter b p.0, plain_letters w p.1) refl
