-- For private functions: an answer on its way to the caller.
use Rattle.std.specs.Prelude.{◌≡◌, ℕ, List, Result, Ok, Err, string_bytes}
use Rattle.std.specs.declared.string.String.{String}
use Rattle.std.specs.declared.alloc.Global.{Global}
use Rattle.sd_outside.specs.declared.status.Status.{Status}
use Rattle.sd_outside.specs.declared.status.Status.TheVariants as status
use Rattle.cli_parts.specs.declared.stop.Stop.{Stop}
use Rattle.cli_parts.specs.declared.stop.Stop.TheVariants.{Memory, Unread, Unreadable, Refused}
use Rattle.sdjwt_c.specs.Handed.{IsGiven, IsLeft}

abbrev pub IsHanded : Result (String Global) Stop → List ℕ → List ℕ → ℕ → Status → Type 0
IsHanded (Ok text) before after len told =
    IsGiven (string_bytes text) status.Done before after len told
IsHanded (Err (Refused text)) before after len told =
    IsGiven (string_bytes text) status.Refused before after len told
IsHanded (Err (Unreadable text)) before after len told =
    IsGiven (string_bytes text) status.Unreadable before after len told
IsHanded (Err (Unread word)) before after len told =
    (told ≡ status.Unread) × IsLeft before after len
IsHanded (Err Memory) before after len told = (told ≡ status.Memory) × IsLeft before after len
