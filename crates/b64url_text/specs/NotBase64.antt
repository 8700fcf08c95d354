-- Not needed to believe the program's promises: why a text does not decode.
use Rattle.std.specs.Prelude.{ℕ, List}
use Rattle.b64url_text.specs.Base64url.{Decodes}

-- no bytes have this text
abbrev pub IsNotBase64 : List ℕ → Type 0
IsNotBase64 text = (bytes : List ℕ) → Decodes text bytes → ⊥
