-- What a run of the program does to the outside, by the status with which it ends.
use Rattle.std.specs.Prelude.{◌≡◌, ◌==◌, ℕ, List, Option, Some, IsSomeAnd, find}
use Rattle.sd_outside.specs.declared.status.Status.{Status}
use Rattle.cli_parts.specs.Outside.{Outside}
use Rattle.cli_parts.specs.Runs.{RunEnds}
use Rattle.sdjwt_cli.specs.Answers.{IsAnswered}
use Rattle.sdjwt_cli.specs.Command.{Command, command_of, files_of}

-- the name that was missed is that of the file of this word
abbrev pub Misses : Command → ℕ → Option (List ℕ) → Type 0
Misses command word missed =
    IsSomeAnd (find (λ wanted. wanted.word == word) (files_of command))
    (λ wanted. missed ≡ Some wanted.name)

-- the words ask for a command, and what is told is its reply over what the cabinet holds
abbrev pub Ends : List (List ℕ) → Outside → Outside → ℕ → Status → Type 0
Ends words before after now status =
    RunEnds (λ command. command_of words ≡ Some command)
    (λ command reply. IsAnswered before.holds command now reply) Misses before after status
