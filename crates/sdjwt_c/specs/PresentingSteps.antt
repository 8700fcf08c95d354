-- For private functions: a step of presenting on its way to the caller.
use Rattle.std.specs.Prelude.{◌≡◌, ℕ, List, Result, Ok, Err, string_bytes}
use Rattle.cli_parts.specs.Replies.{gives, refuses, unreadable}
use Rattle.cli_parts.specs.declared.stop.Stop.{Stop}
use Rattle.sd_outside.specs.Status.{status_number}
use Rattle.sd_outside.specs.declared.status.Status.{Status}
use Rattle.sdjwt_c.specs.Judging.{HandsAs}
use Rattle.sdjwt_c.specs.Presenting.{Step, replies, asks, to_sign}
use Rattle.sdjwt_c.specs.Results.{IsHanded}
use Rattle.sdjwt_c.specs.declared.presenting.Step.{Step as Told}

-- this is so of what is told, where there was memory for it
abbrev pub OnStep : Result Told Stop → (Step → Type 0) → Type 0
OnStep (Ok (Told.Presented text)) Is = Is (replies (gives (string_bytes text)))
OnStep (Ok (Told.Asks text)) Is = Is (asks (string_bytes text))
OnStep (Ok (Told.ToSign text)) Is = Is (to_sign (string_bytes text))
OnStep (Err (Stop.Refused text)) Is = Is (replies (refuses (string_bytes text)))
OnStep (Err (Stop.Unreadable text)) Is = Is (replies (unreadable (string_bytes text)))
OnStep (Err (Stop.Unread word)) Is = ⊥
OnStep (Err Stop.Memory) Is = Unit {0}

-- it is handed by its number
abbrev pub IsHandedStep : Result Told Stop → List ℕ → List ℕ → ℕ → ℕ → Type 0
IsHandedStep (Ok (Told.Presented text)) before after len number =
    (status : Status) × (number ≡ status_number status) × IsHanded (Ok text) before after len status
IsHandedStep (Ok (Told.Asks text)) before after len number =
    HandsAs 7 (string_bytes text) before after len number
IsHandedStep (Ok (Told.ToSign text)) before after len number =
    HandsAs 9 (string_bytes text) before after len number
IsHandedStep (Err why) before after len number =
    (status : Status) × (number ≡ status_number status) × IsHanded (Err why) before after len status
