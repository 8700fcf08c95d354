-- The compact serialization, RFC 9901 section 4: parts, and the text that spells them.
use Rattle.std.specs.Prelude.{◌≡◌, ◌<◌, ◌≤◌, ℕ, List, [], ◌++◌, length, take, Option, None, Some, IfSome, codes}
use Rattle.std.specs.List.{flat_map, AllByRecursion}
use Rattle.b64url_text.specs.Base64url.{IsWord}
use Rattle.compact_form.specs.declared.parts.JwtParts.{JwtParts}
use Rattle.compact_form.specs.declared.parts.Parts.{Parts}

-- protected header, payload and signature, joined by dots
abbrev pub jwt : JwtParts → List ℕ
jwt j = j.protected ++ (codes "." ++ (j.payload ++ (codes "." ++ j.signature)))

-- each disclosure with its tilde
abbrev pub spelled : List (List ℕ) → List ℕ
spelled disclosures = flat_map (λ disclosure. disclosure ++ codes "~") disclosures

-- the compact text up to and with its last tilde, over which a key binding
-- token is made (section 4.3.1)
abbrev pub hashed : Parts → List ℕ
hashed parts = jwt parts.signed ++ (codes "~" ++ spelled parts.disclosures)

-- the key binding token, where there is one
abbrev pub ending : Option JwtParts → List ℕ
ending None = []
ending (Some j) = jwt j

abbrev pub compact : Parts → List ℕ
compact parts = hashed parts ++ ending parts.binding

pub record HasWords (j : JwtParts) : Type 0 where
  pub protected : IsWord j.protected
  pub payload : IsWord j.payload
  pub signature : IsWord j.signature

-- each text of the parts is a word
pub record AreWords (parts : Parts) : Type 0 where
  pub signed : HasWords parts.signed
  pub disclosures : AllByRecursion IsWord parts.disclosures
  pub binding : IfSome parts.binding HasWords

-- the text is the spelling of the parts
pub record IsCompact (parts : Parts) (text : List ℕ) : Type 0 where
  pub signed : HasWords parts.signed
  pub disclosures : AllByRecursion IsWord parts.disclosures
  pub binding : IfSome parts.binding HasWords
  pub spelling : text ≡ compact parts

-- some compact text begins with these bytes
abbrev pub Begins : List ℕ → Type 0
Begins front = (parts : Parts) × ((rest : List ℕ) × IsCompact parts (front ++ rest))

-- the longest front that begins a compact text has this length
pub record IsStop (text : List ℕ) (stop : ℕ) : Type 0 where
  pub within : stop ≤ length text
  pub begins : Begins (take stop text)
  pub longest : (more : ℕ) → stop < more → more ≤ length text → Begins (take more text) → ⊥

-- the text is no compact text, and its longest front that begins one has this length
pub record IsMisformedAt (text : List ℕ) (stop : ℕ) : Type 0 where
  pub no_parts : (parts : Parts) → IsCompact parts text → ⊥
  pub longest : IsStop text stop
