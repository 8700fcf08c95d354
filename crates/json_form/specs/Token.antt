-- A token as it comes from a file, in any of its serializations (RFC 9901 sections 4 and 8), or the
-- lowest condition of 1 to 3 that fails.
use Rattle.std.specs.Prelude.{◌≡◌, ◌<◌, ◌⊎◌, ℕ, true, false, List, length}
use Rattle.claim_tree.specs.Tree.{no_members}
use Rattle.sd_outside.specs.Limits.{compact_max, count_max}
use Rattle.refusals.specs.declared.condition.Condition.{Condition}
use Rattle.refusals.specs.Faults.{fault_number, fault_at, unplaced}
use Rattle.refusals.specs.declared.fault.Fault.{Fault}
use Rattle.refusals.specs.declared.fault.Place.{Place}
use Rattle.refusals.specs.declared.fault.Place.TheVariants.{At, Json}
use Rattle.refusals.specs.declared.fault.JsonPlace.{JsonPlace}
use Rattle.compact_form.specs.declared.parts.Parts.{Parts}
use Rattle.refusals.specs.Lowest.{IsLowestBy, NoneApplies}
use Rattle.compact_form.specs.Compact.{compact, IsCompact, IsMisformedAt}
use Rattle.compact_form.specs.Trim.{trimmed, is_json, is_too_long}
use Rattle.json_form.specs.declared.token.Token.{Token}
use Rattle.json_form.specs.Json.{IsJson}
use Rattle.json_form.specs.JsonPlaces.{IsJsonPlace}

-- the text is a serialization of the token: a JSON one where it begins with
-- `{`, else the compact one, which has no unprotected header
pub data Spells (text : List ℕ) (token : Token) : Type 0 where
  spells_compact : is_json text ≡ false → IsCompact token.parts text → token.outer ≡ no_members
      → Spells text token
  spells_json : is_json text ≡ true → IsJson token text → Spells text token

-- the text is none, and this is the place that is named
pub data IsMisformed (text : List ℕ) (place : Place) : Type 0 where
  no_compact : (stop : ℕ) → is_json text ≡ false → IsMisformedAt text stop → place ≡ At stop
      → IsMisformed text place
  no_json : (at : JsonPlace) → is_json text ≡ true → IsJsonPlace text at → place ≡ Json at
      → IsMisformed text place

-- there are too many disclosures, or the compact text of the parts is too long
abbrev pub IsTooMuch : Parts → Type 0
IsTooMuch parts = (count_max < length parts.disclosures) ⊎ (compact_max < length (compact parts))

-- each condition that fails, with its place
pub data TextFails (text : List ℕ) (fault : Fault) : Type 0 where
  too_long : fault ≡ unplaced Condition.TooLong → is_too_long text ≡ true → TextFails text fault
  form : (place : Place) → fault ≡ fault_at Condition.Form place → IsMisformed (trimmed text) place
      → TextFails text fault
  too_much : (token : Token) → fault ≡ unplaced Condition.TooMuch → Spells (trimmed text) token
      → IsTooMuch token.parts → TextFails text fault

-- the lowest condition that fails
abbrev pub IsTextRefused : List ℕ → Fault → Type 0
IsTextRefused text fault = IsLowestBy fault_number (TextFails text) fault

-- no condition fails, and the text between its blanks is a serialization of the token
pub record IsToken (text : List ℕ) (token : Token) : Type 0 where
  pub spells : Spells (trimmed text) token
  pub passes : NoneApplies (TextFails text)
