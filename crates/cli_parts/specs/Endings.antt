-- How a program ends: with the number of the status of its run, or where it ran
-- no command, with a line that tells why.
use Rattle.std.specs.Prelude.{◌≡◌, ℕ, List, codes, Result, Ok, Err}
use Rattle.std.specs.Process.{exit_status}
use Rattle.std.specs.declared.process.ExitCode.{ExitCode}
use Rattle.sd_outside.specs.Status.{status_number}
use Rattle.sd_outside.specs.declared.status.Status.{Status}
use Rattle.sd_outside.specs.declared.status.Status.TheVariants.{Usage, Unread, Memory}
use Rattle.cli_parts.specs.Lines.{line}
use Rattle.cli_parts.specs.Outside.{Stream, Tells}
use Rattle.cli_parts.specs.declared.host.Ending.{Ending}

-- the status of why no command was run, and the words of its line
abbrev pub ending_row : Ending → Status × List ℕ
ending_row Ending.Words = (Usage, codes "usage")
ending_row Ending.Memory = (Memory, codes "memory")
ending_row Ending.Clock = (Unread, codes "unread clock")

-- the exit status is that of the run, and nothing more was told; or it is that
-- of why there was none, which was told
abbrev pub EndsWith : Result Status Ending → Stream → Stream → ExitCode → Type 0
EndsWith (Ok status) before after code =
    (exit_status code ≡ status_number status) × (after ≡ before)
EndsWith (Err ending) before after code =
    (exit_status code ≡ status_number (ending_row ending).0)
    × Tells before after (line (ending_row ending).1)
