-- Not needed to believe the program's promises: the parts that a view shows,
-- and the texts that it keeps of them.
use Rattle.std.specs.Prelude.{◌≡◌, ℕ, ◌==◌, List, [], ◌∷◌, ◌++◌, length, Option, codes, if◌then◌else◌}
use Rattle.std.specs.List.{AllByRecursion}
use Rattle.std.specs.Option.{option_map}
use Rattle.b64url_text.specs.Base64url.{IsWord}
use Rattle.compact_form.specs.declared.parts.JwtParts.{JwtParts}
use Rattle.compact_form.specs.declared.parts.Parts.{Parts}
use Rattle.compact_form.specs.declared.view.JwtView.{JwtView}
use Rattle.compact_form.specs.Compact.{jwt, spelled}

-- the texts that a borrowed JWT points to
abbrev pub jwt_of : JwtView → JwtParts
jwt_of j =
    record { protected = j.protected.now; payload = j.payload.now; signature = j.signature.now }

-- a byte more at the front of the first piece
abbrev pub longer : ℕ → List (List ℕ) → List (List ℕ)
longer byte [] = (byte ∷ []) ∷ []
longer byte (piece ∷ pieces) = (byte ∷ piece) ∷ pieces

-- the texts that stand each before a tilde
unfoldable pub pieces_of : List ℕ → List (List ℕ)
pieces_of [] = []
pieces_of (byte ∷ bytes) =
    if byte == 126 then [] ∷ pieces_of bytes else longer byte (pieces_of bytes)

-- words, each with its tilde, and nothing else
pub record IsSpelled (text : List ℕ) : Type 0 where
  pub words : AllByRecursion IsWord (pieces_of text)
  pub spelling : text ≡ spelled (pieces_of text)

abbrev pub parts_of : JwtView → List ℕ → Option JwtView → Parts
parts_of signed disclosures binding =
    record {
      signed = jwt_of signed;
      disclosures = pieces_of disclosures;
      binding = option_map jwt_of binding;
    }

-- what a view keeps beside its parts: the number of disclosures, and the text
-- up to and with its last tilde
pub record AreSpelled (signed : JwtView) (disclosures : List ℕ) (count : ℕ) (hashed : List ℕ)
    : Type 0 where
  pub spelling : IsSpelled disclosures
  pub counted : count ≡ length (pieces_of disclosures)
  pub front : hashed ≡ jwt (jwt_of signed) ++ (codes "~" ++ disclosures)
