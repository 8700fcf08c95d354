-- For private functions: a part of a question on its way to the caller.
use Rattle.std.specs.Prelude.{◌≡◌, ℕ, List, Option, None, Some, Result, Ok, Err}
use Rattle.cli_parts.specs.declared.stop.Stop.{Stop}
use Rattle.sd_outside.specs.Status.{status_number}
use Rattle.sd_outside.specs.declared.status.Status.{Status}
use Rattle.sd_outside.specs.declared.status.Status.TheVariants.{Done}
use Rattle.sdjwt_c.specs.Handed.{IsGiven, IsLeft}
use Rattle.sdjwt_c.specs.Results.{IsHanded}

-- it is handed by its number
abbrev pub IsHandedPart :
    Result (Option (List ℕ)) Stop → List ℕ → List ℕ → ℕ → ℕ → Type 0
IsHandedPart (Ok (Some part)) before after len number =
    (status : Status) × (number ≡ status_number status) × IsGiven part Done before after len status
IsHandedPart (Ok None) before after len number = (number ≡ 10) × IsLeft before after len
IsHandedPart (Err why) before after len number =
    (status : Status) × (number ≡ status_number status) × IsHanded (Err why) before after len status
