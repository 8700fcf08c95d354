-- Worked values, by the definitions: the vectors of RFC 4648 section 10 without padding, and texts of no bytes.
use Rattle.std.proofs.Common.{◌≡◌, [], ◌∷◌, codes, refl}
use Rattle.base64.specs.Decode.{groups_error, scan_steps}
use Rattle.base64.specs.declared.decode.DecodeError.TheVariants.{InvalidPadding, InvalidLength, InvalidLastSymbol}
use Rattle.b64url_text.specs.Base64url.{letters, bits, sixes, b64}
use Rattle.b64url_text.specs.NotBase64.{IsNotBase64}
use Rattle.b64url_text.specs.Room.{room_for}
use Rattle.b64url_text.proofs.Codes.{refused}

-- the last is of the two letters that base64 has otherwise
encoded : (b64 [] ≡ [])
    × (b64 (codes "f") ≡ codes "Zg")
    × (b64 (codes "fo") ≡ codes "Zm8")
    × (b64 (codes "foo") ≡ codes "Zm9v")
    × (b64 (codes "foob") ≡ codes "Zm9vYg")
    × (b64 (codes "fooba") ≡ codes "Zm9vYmE")
    × (b64 (codes "foobar") ≡ codes "Zm9vYmFy")
    × (b64 (251 ∷ 255 ∷ 191 ∷ []) ≡ codes "-_-_")
unfolding b64 sixes bits letters
encoded = (refl, refl, refl, refl, refl, refl, refl, refl)

-- one byte has two letters
room : room_for 2 ≡ 3
room = refl

-- ---- texts of no bytes, by what the engine refuses

-- `f` is "Zg", whose last four bits are zeros, and `fo` is "Zm8", whose last two are
no_bytes : IsNotBase64 (codes "Zh") × IsNotBase64 (codes "Zm9") × IsNotBase64 (codes "A") × IsNotBase64 (codes "Zg==")
unfolding groups_error scan_steps
no_bytes = (
  refused (codes "Zh") (InvalidLastSymbol 1 104 33) refl,
  refused (codes "Zm9") (InvalidLastSymbol 2 57 61) refl,
  refused (codes "A") (InvalidLength 1) refl,
  refused (codes "Zg==") InvalidPadding refl,
)
