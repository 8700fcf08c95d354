-- The lines on standard error.
use Rattle.std.specs.Prelude.{◌+◌, ℕ, List, [], ◌∷◌, ◌++◌, codes}
use Rattle.std.specs.Fmt.{decimal}
use Rattle.file_members.specs.FileWords.{field_word}
use Rattle.file_members.specs.declared.file_fault.FileFault.{FileFault}
use Rattle.file_members.specs.declared.file_fault.FileFault.TheVariants.{Memory, TooLong, NotJson, NotWhole, NotObject, Unknown, Missing, Wrong}
use Rattle.refusals.specs.declared.fault.Fault.{Fault}
use Rattle.refusals.specs.RefusedText.{fault_text}

abbrev pub line : List ℕ → List ℕ
line text = text ++ (10 ∷ [])

-- the line of a condition that fails
abbrev pub refusal : Fault → List ℕ
refusal fault = line (fault_text fault)

-- the line of a file that was not read: its word is counted behind the command,
-- here from 0 and in print from 1
abbrev pub unread_text : ℕ → List ℕ
unread_text word = line (codes "unread " ++ decimal (word + 1))

-- why a file is not of its form; want of memory is no reason
abbrev pub reason : FileFault → List ℕ
reason Memory = []
reason TooLong = codes "tooLong"
reason NotJson = codes "notJson"
reason NotWhole = codes "notWhole"
reason NotObject = codes "notObject"
reason Unknown = codes "unknown"
reason (Missing field) = codes "missing " ++ field_word field
reason (Wrong field) = codes "wrong " ++ field_word field

-- the line of a file that is not of its form: its word is counted behind the command, from 1
abbrev pub unreadable_line : ℕ → FileFault → List ℕ
unreadable_line word fault =
    line (codes "unreadable " ++ (decimal word ++ (codes " " ++ reason fault)))

-- the line of a seed file with too few bytes, the second of its command
abbrev pub short_seed : List ℕ
short_seed = line (codes "unreadable 2 short")
