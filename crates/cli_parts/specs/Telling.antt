-- The line that tells of what is wrong.
use Rattle.std.specs.Prelude.{◌≡◌, ◌≢◌, ℕ, List}
use Rattle.file_members.specs.declared.file_fault.FileFault.{FileFault}
use Rattle.refusals.specs.declared.fault.Fault.{Fault}
use Rattle.cli_parts.specs.Lines.{refusal, unreadable_line}

-- a token file is refused by such a fault, with this line
pub record TellsFault (IsRefused : Fault → Type 0) (text : List ℕ) : Type 0 where
  pub fault : Fault
  pub refused : IsRefused fault
  pub line_is : text ≡ refusal fault

-- the first file is not of its form by such a fault, for another cause than
-- want of memory, with this line
pub record TellsFileFault (IsRefused : FileFault → Type 0) (text : List ℕ) : Type 0 where
  pub fault : FileFault
  pub refused : IsRefused fault
  pub cause : fault ≢ FileFault.Memory
  pub line_is : text ≡ unreadable_line 1 fault
