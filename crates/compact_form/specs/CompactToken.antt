-- Not needed to believe the program's promises: a compact token as it comes
-- from a file: conditions 1 to 3 of a verifier, and its parts.
use Rattle.std.specs.Prelude.{◌≡◌, ◌<◌, ℕ, true, List, length}
use Rattle.sd_outside.specs.Limits.{count_max}
use Rattle.refusals.specs.declared.condition.Condition.{Condition}
use Rattle.refusals.specs.Faults.{fault_number, unplaced, placed}
use Rattle.refusals.specs.Lowest.{IsLowestBy, NoneApplies}
use Rattle.refusals.specs.declared.fault.Fault.{Fault}
use Rattle.compact_form.specs.declared.parts.Parts.{Parts}
use Rattle.compact_form.specs.Compact.{IsCompact, IsMisformedAt}
use Rattle.compact_form.specs.Trim.{trimmed, is_too_long}

-- each condition that fails, with its place
pub data CompactFails (text : List ℕ) (fault : Fault) : Type 0 where
  too_long : fault ≡ unplaced Condition.TooLong → is_too_long text ≡ true → CompactFails text fault
  form : (stop : ℕ) → fault ≡ placed Condition.Form stop → IsMisformedAt (trimmed text) stop
      → CompactFails text fault
  too_much : (parts : Parts) → fault ≡ unplaced Condition.TooMuch → IsCompact parts (trimmed text)
      → count_max < length parts.disclosures → CompactFails text fault

-- the lowest condition that fails
abbrev pub IsCompactRefused : List ℕ → Fault → Type 0
IsCompactRefused text fault = IsLowestBy fault_number (CompactFails text) fault

-- no condition fails, and the text spells these parts between its blanks
pub record ReadsCompact (text : List ℕ) (parts : Parts) : Type 0 where
  pub spelling : IsCompact parts (trimmed text)
  pub passes : NoneApplies (CompactFails text)
