-- The test by ranges is the look in the table.
use Rattle.std.proofs.Common.{◌≡◌, ◌⊎◌, inl, inr, ◌<◌, ℕ, Bool, true, List, [], ◌∷◌, refl, arith, ◌||◌}
use Rattle.std.specs.Prelude.{nat_eq, nat_lt, ◌==◌}
use Rattle.std.specs.List.{list_all, list_any}
use Rattle.std.specs.Char.{is_ascii_alphanumeric}
use Rattle.std.proofs.lemmas.Bool.{agree_below_at, eqb-true, or_cases, and_parts, ltb-true}
use Rattle.b64url_text.specs.Base64url.{letters, is_letter}

in_ranges : ℕ → Bool
in_ranges byte = is_ascii_alphanumeric byte || (nat_eq byte 45 || nat_eq byte 95)

pub by_ranges : (byte : ℕ) → byte < 256 → (is_ascii_alphanumeric byte || (nat_eq byte 45 || nat_eq byte 95)) ≡ is_letter byte
unfolding in_ranges is_letter letters
by_ranges byte fits = agree_below_at in_ranges is_letter 256 byte refl fits

found : (x b n : ℕ) (xs : List ℕ) → ((x == b) ≡ true) ⊎ (list_any (λ y. y == b) xs ≡ true) → x < n → (list_any (λ y. y == b) xs ≡ true → b < n) → b < n
found x b n xs (inl e) small k = let same = eqb-true x b e in omega arith
found x b n xs (inr h) small k = k h

below : (xs : List ℕ) (b n : ℕ) → list_all (λ x. nat_lt x n) xs ≡ true → list_any (λ x. x == b) xs ≡ true → b < n
below [] b n small h = cc
below (x ∷ xs) b n small h =
    let p = and_parts (nat_lt x n) (list_all (λ y. nat_lt y n) xs) small in
    found x b n xs (or_cases (x == b) (list_any (λ y. y == b) xs) h) (ltb-true x n p.0) (below xs b n p.1)

-- a letter is ASCII
pub letter_below : (b : ℕ) → is_letter b ≡ true → b < 128
unfolding is_letter letters
letter_below b h = below letters b 128 refl h
