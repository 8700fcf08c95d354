-- The line that reports a refusal.
use Rattle.std.specs.Prelude.{ℕ, List, [], ◌++◌, Option, None, Some, codes}
use Rattle.std.specs.Fmt.{decimal}
use Rattle.refusals.specs.declared.fault.Fault.{Fault}
use Rattle.refusals.specs.declared.fault.Place.{Place}
use Rattle.refusals.specs.declared.fault.Place.TheVariants.{Nowhere, At, Json}
use Rattle.refusals.specs.declared.fault.JsonPlace.{JsonPlace}
use Rattle.refusals.specs.declared.refusal.Refusal.{Refusal}
use Rattle.refusals.specs.Faults.{failed_of}
use Rattle.refusals.specs.PartWords.{part_word}
use Rattle.refusals.specs.Refusal.{refusal_number, refusal_name}

-- the end of the line that names the place, if there is one
abbrev pub at_text : Option (List ℕ) → List ℕ
at_text None = []
at_text (Some place) = codes " at " ++ place

-- its number, its name and its place, without a line end
abbrev pub refused_text : Refusal → Option (List ℕ) → List ℕ
refused_text refusal place =
    codes "refused "
    ++ (decimal (refusal_number refusal) ++ (codes " " ++ (refusal_name refusal ++ at_text place)))

-- the line of a refusal, where there is one
abbrev pub told_text : Option Refusal → Option (List ℕ) → List ℕ
told_text None place = []
told_text (Some refusal) place = refused_text refusal place

abbrev pub json_place_text : JsonPlace → List ℕ
json_place_text JsonPlace.NotJson = codes "notJson"
json_place_text JsonPlace.NotWhole = codes "notWhole"
json_place_text JsonPlace.NotObject = codes "notObject"
json_place_text (JsonPlace.Missing part) = codes "missing " ++ part_word part
json_place_text (JsonPlace.Wrong part) = codes "wrong " ++ part_word part
json_place_text (JsonPlace.Stray entry) = codes "stray " ++ decimal entry

-- the printed place, if there is one
abbrev pub place_text : Place → Option (List ℕ)
place_text Nowhere = None
place_text (At place) = Some (decimal place)
place_text (Json place) = Some (json_place_text place)

-- the line of the condition that a fault names
abbrev pub fault_text : Fault → List ℕ
fault_text fault = refused_text (Refusal.Condition (failed_of fault)) (place_text fault.place)
