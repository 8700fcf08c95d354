-- The command `split`: what it prints of a token file, and when it refuses one.
use Rattle.std.specs.Prelude.{◌≡◌, ℕ, ◌+◌, List, [], ◌∷◌, ◌++◌, Option, None, Some, codes}
use Rattle.std.specs.Fmt.{decimal}
use Rattle.compact_form.specs.declared.parts.JwtParts.{JwtParts}
use Rattle.compact_form.specs.declared.parts.Parts.{Parts}
use Rattle.compact_form.specs.Compact.{jwt}
use Rattle.json_form.specs.declared.token.Token.{Token}
use Rattle.json_form.specs.Token.{IsToken}
use Rattle.cli_parts.specs.Lines.{line}

abbrev pub signed_lines : JwtParts → List ℕ
signed_lines j =
    line (codes "protected " ++ j.protected)
    ++ (line (codes "payload " ++ j.payload) ++ line (codes "signature " ++ j.signature))

-- the disclosures, numbered from i
abbrev pub disclosure_lines : ℕ → List (List ℕ) → List ℕ
disclosure_lines i [] = []
disclosure_lines i (disclosure ∷ disclosures) =
    line (codes "disclosure " ++ (decimal i ++ (codes " " ++ disclosure)))
    ++ disclosure_lines (i + 1) disclosures

abbrev pub binding_line : Option JwtParts → List ℕ
binding_line None = []
binding_line (Some j) = line (codes "binding " ++ jwt j)

-- a line for each part
abbrev pub split_lines : Parts → List ℕ
split_lines parts =
    signed_lines parts.signed ++ disclosure_lines 0 parts.disclosures ++ binding_line parts.binding

-- the file is a token in one of its serializations, and these are the lines of its parts
pub record Splits (file answer : List ℕ) : Type 0 where
  pub token : Token
  pub reads : IsToken file token
  pub lines : answer ≡ split_lines token.parts
