-- The commands of the program, and the files that each reads.
use Rattle.std.specs.Prelude.{◌+◌, ℕ, List, [], ◌∷◌, Option, None, Some, codes, bytes_eq, if◌then◌else◌}
use Rattle.std.specs.Option.{option_map}
use Rattle.sd_outside.specs.Limits.{file_max, seed_len}
use Rattle.sdjwt_cli.specs.declared.form.Form.{Form}
use Rattle.sdjwt_cli.specs.Forms.{form_of}
use Rattle.sdjwt_cli.specs.Generated.{count_of}

-- a command, with the names of its files, of `convert` the form, and of `gen` the number
pub data Command : Type 0 where
  split : (token : List ℕ) → Command
  show : (token : List ℕ) → Command
  verify : (policy token : List ℕ) → Command
  issue : (order seed : List ℕ) → Command
  present : (order token : List ℕ) → Command
  convert : (form : Form) (token : List ℕ) → Command
  gen : (count : ℕ) → Command

-- the command that the words behind the program's name are
abbrev pub command_of : List (List ℕ) → Option Command
command_of [] = None
command_of (word ∷ []) = None
command_of (word ∷ token ∷ []) =
    if bytes_eq word (codes "split") then Some (split token)
    else if bytes_eq word (codes "show") then Some (show token)
    else if bytes_eq word (codes "gen") then option_map gen (count_of token) else None
command_of (word ∷ first ∷ second ∷ []) =
    if bytes_eq word (codes "verify") then Some (verify first second)
    else if bytes_eq word (codes "issue") then Some (issue first second)
    else if bytes_eq word (codes "present") then Some (present first second)
    else if bytes_eq word (codes "convert")
    then option_map (λ form. convert form second) (form_of first) else None
command_of (word ∷ first ∷ second ∷ more ∷ rest) = None

-- a file: the word that names it, counted behind the command from 0, its name,
-- and the most bytes that are read of it
pub record NamedFile : Type 0 where
  pub word : ℕ
  pub name : List ℕ
  pub most : ℕ

-- the files of a command, in the order in which they are read: one byte more than the limit tells a
-- file that is too long, and of a seed no more is read than is used
abbrev pub files_of : Command → List NamedFile
files_of (split token) = record { word = 0; name = token; most = file_max + 1 } ∷ []
files_of (show token) = record { word = 0; name = token; most = file_max + 1 } ∷ []
files_of (verify policy token) =
    record { word = 0; name = policy; most = file_max + 1 }
    ∷ record { word = 1; name = token; most = file_max + 1 } ∷ []
files_of (issue order seed) =
    record { word = 0; name = order; most = file_max + 1 }
    ∷ record { word = 1; name = seed; most = seed_len } ∷ []
files_of (present order token) =
    record { word = 0; name = order; most = file_max + 1 }
    ∷ record { word = 1; name = token; most = file_max + 1 } ∷ []
files_of (convert form token) = record { word = 1; name = token; most = file_max + 1 } ∷ []
files_of (gen count) = []
