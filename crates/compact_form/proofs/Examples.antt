-- Worked values, by the definitions.
use Rattle.std.proofs.Common.{◌≡◌, List, ℕ, [], ◌∷◌, Option, None, Some, true, false, codes, refl, arith}
use Rattle.b64url_text.specs.Base64url.{letters, is_letter, IsWord}
use Rattle.compact_form.specs.declared.field.Field.TheVariants.{Protected, Signature, Piece, BindingSignature}
use Rattle.compact_form.specs.declared.parts.JwtParts.{JwtParts}
use Rattle.compact_form.specs.declared.parts.Parts.{Parts}
use Rattle.compact_form.specs.Compact.{hashed, compact, HasWords, IsCompact, IsMisformedAt}
use Rattle.compact_form.specs.Trim.{trimmed}
use Rattle.compact_form.proofs.Stops.{refused_at_byte, refused_at_end}

abbrev jwt_of : List ℕ → List ℕ → List ℕ → JwtParts
jwt_of protected payload signature = record { protected = protected; payload = payload; signature = signature }

abbrev parts_of : List (List ℕ) → Option JwtParts → Parts
parts_of disclosures binding = record { signed = jwt_of (codes "a") (codes "b") (codes "c"); disclosures = disclosures; binding = binding }

abbrev bare : Parts
bare = parts_of [] None

abbrev pub bound : Parts
bound = parts_of (codes "d" ∷ []) (Some (jwt_of (codes "e") (codes "f") (codes "g")))

abbrev two : Parts
two = parts_of (codes "d" ∷ codes "e" ∷ []) None

letter : (byte : ℕ) → is_letter byte ≡ true → IsWord (byte ∷ [])
letter byte is = record { some = omega arith; letters = rw is refl }

signed_words : HasWords (jwt_of (codes "a") (codes "b") (codes "c"))
unfolding is_letter letters
signed_words = record { protected = letter 97 refl; payload = letter 98 refl; signature = letter 99 refl }

-- ---- texts and the parts that they spell

issued : IsCompact bare (codes "a.b.c~")
issued = record { signed = signed_words; disclosures = tt; binding = tt; spelling = refl }

disclosed : IsCompact two (codes "a.b.c~d~e~")
unfolding is_letter letters
disclosed = record { signed = signed_words; disclosures = (letter 100 refl, (letter 101 refl, tt)); binding = tt; spelling = refl }

pub presented : IsCompact bound (codes "a.b.c~d~e.f.g")
unfolding is_letter letters
presented = record {
  signed = signed_words;
  disclosures = (letter 100 refl, tt);
  binding = record { protected = letter 101 refl; payload = letter 102 refl; signature = letter 103 refl };
  spelling = refl;
}

hashed_of_it : hashed bound ≡ codes "a.b.c~d~"
hashed_of_it = refl

without_binding : hashed two ≡ compact two
without_binding = refl

-- ---- where a text stops

-- a JWT alone: the tilde is missing
pub no_tilde : IsMisformedAt (codes "a.b.c") 5
unfolding is_letter letters
no_tilde = refused_at_end (codes "a.b.c") 5 (Signature, true) refl refl refl

-- an empty disclosure
empty_disclosure : IsMisformedAt (codes "a.b.c~~") 6
unfolding is_letter letters
empty_disclosure = refused_at_byte (codes "a.b.c~~") 6 (Piece, false) (omega arith) refl refl

nothing : IsMisformedAt [] 0
nothing = refused_at_end [] 0 (Protected, false) refl refl refl

-- behind a key binding token nothing stands
tilde_behind_binding : IsMisformedAt (codes "a.b.c~d.e.f~") 11
unfolding is_letter letters
tilde_behind_binding = refused_at_byte (codes "a.b.c~d.e.f~") 11 (BindingSignature, true) (omega arith) refl refl

padded : IsMisformedAt (codes "a.b.c~d=~") 7
unfolding is_letter letters
padded = refused_at_byte (codes "a.b.c~d=~") 7 (Piece, true) (omega arith) refl refl

-- ---- blanks at the ends

trimmed_at_both_ends : trimmed (codes " a.b.c~ \n") ≡ codes "a.b.c~"
trimmed_at_both_ends = refl
