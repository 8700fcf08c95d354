-- Not needed to believe the program's promises: what an answer makes of two sinks.
use Rattle.std.specs.Prelude.{◌≡◌, ◌⊎◌, ℕ, List, Result, Ok, Err, codes, string_bytes}
use Rattle.std.specs.Io.KnownBytes.{Appends}
use Rattle.std.specs.declared.alloc.Global.{Global}
use Rattle.std.specs.declared.string.String.{String}
use Rattle.sd_outside.specs.Causes.{Rose, AppendsPrefix}
use Rattle.sd_outside.specs.declared.status.Status.{Status}
use Rattle.sd_outside.specs.declared.status.Status.TheVariants as status
use Rattle.cli_parts.specs.Lines.{line, unread_text}
use Rattle.cli_parts.specs.Outside.{Stream, Tells}
use Rattle.cli_parts.specs.declared.stop.Stop.{Stop}
use Rattle.cli_parts.specs.declared.stop.Stop.TheVariants.{Memory, Unread, Unreadable, Refused}

-- the line of want of memory was told
abbrev pub TellsMemory : Stream → Stream → Status → Type 0
TellsMemory before after told = (told ≡ status.Memory) × Tells before after (line (codes "memory"))

-- the line of a stop was told; there may be no memory for that of a file that was not read
abbrev pub TellsStop : Stop → Stream → Stream → Status → Type 0
TellsStop Memory before after told = TellsMemory before after told
TellsStop (Unread word) before after told =
    ((told ≡ status.Unread) × Tells before after (unread_text word)) ⊎ TellsMemory before after told
TellsStop (Unreadable text) before after told =
    (told ≡ status.Unreadable) × Tells before after (string_bytes text)
TellsStop (Refused text) before after told =
    (told ≡ status.Refused) × Tells before after (string_bytes text)

-- `out` and `err` before and after
pub record Streams : Type 0 where
  pub out : Stream
  pub err : Stream

abbrev pub streams : Stream → Stream → Streams
streams out err = record { out = out; err = err }

-- the answer was written
pub record PutsWhole (text : List ℕ) (before after : Streams) (told : Status) : Type 0 where
  pub status_is : told ≡ status.Done
  pub out : Appends before.out.written after.out.written text
  pub err : after.err.written ≡ before.err.written

-- `out` failed at it
pub record PutsPrefix (text : List ℕ) (before after : Streams) (told : Status) : Type 0 where
  pub status_is : told ≡ status.Unwritten
  pub rose : Rose before.out.faults after.out.faults
  pub out : AppendsPrefix before.out.written after.out.written text
  pub err : Tells before.err after.err (line (codes "unwritten"))

-- the answer was written, or the line that tells why there is none
abbrev pub Finishes : Result (String Global) Stop → Streams → Streams → Status → Type 0
Finishes (Ok text) before after told =
    PutsWhole (string_bytes text) before after told
    ⊎ PutsPrefix (string_bytes text) before after told
Finishes (Err stop) before after told =
    (after.out.written ≡ before.out.written) × TellsStop stop before.err after.err told
