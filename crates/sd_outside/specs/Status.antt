-- The exit statuses of the program.
use Rattle.std.specs.Prelude.{ℕ}
use Rattle.sd_outside.specs.declared.status.Status.{Status}
use Rattle.sd_outside.specs.declared.status.Status.TheVariants.{Done, Refused, Usage, Unread, Unwritten, Memory, Unreadable}

abbrev pub status_number : Status → ℕ
status_number Done = 0
status_number Refused = 1
status_number Usage = 2
status_number Unread = 3
status_number Unwritten = 4
status_number Memory = 5
status_number Unreadable = 6
