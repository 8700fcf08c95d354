-- Not needed to believe the program's promises: what calls on a JWT that stands alone answer.
use Rattle.std.specs.Prelude.{◌≡◌, ℕ, ◌==◌, false, List, ◌++◌, codes}
use Rattle.std.specs.List.{list_any}
use Rattle.compact_form.specs.declared.parts.JwtParts.{JwtParts}
use Rattle.compact_form.specs.Compact.{HasWords, jwt}

-- the text is the spelling of a jwt that stands alone
pub record IsJwt (j : JwtParts) (text : List ℕ) : Type 0 where
  pub words : HasWords j
  pub spelling : text ≡ jwt j

-- the front of a text up to and with its last tilde
pub record IsUpToLastTilde (text front : List ℕ) : Type 0 where
  pub before : List ℕ
  pub behind : List ℕ
  pub tilde : front ≡ before ++ codes "~"
  pub cut : text ≡ front ++ behind
  pub last : list_any (λ byte. byte == 126) behind ≡ false
