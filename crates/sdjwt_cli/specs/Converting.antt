-- The command `convert`: a token in another serialization, and when it refuses one.
use Rattle.std.specs.Prelude.{◌≡◌, ◌<◌, ◌≤◌, ℕ, List, length}
use Rattle.claim_tree.specs.Tree.{no_members, members_depth}
use Rattle.claim_tree.specs.JsonText.{json_text}
use Rattle.sd_outside.specs.Limits.{file_max}
use Rattle.refusals.specs.declared.condition.Condition.{Condition}
use Rattle.refusals.specs.Faults.{unplaced}
use Rattle.refusals.specs.declared.fault.Fault.{Fault}
use Rattle.compact_form.specs.Compact.{compact}
use Rattle.json_form.specs.declared.token.Token.{Token}
use Rattle.json_form.specs.Token.{IsTextRefused, IsToken}
use Rattle.json_form.specs.Written.{flat_of, general_of}
use Rattle.sdjwt_cli.specs.declared.form.Form.{Form}
use Rattle.sdjwt_cli.specs.declared.form.Form.TheVariants.{Compact, Flat, General}
use Rattle.cli_parts.specs.Lines.{line}

-- a token in a form: the JSON ones keep the other members of its unprotected
-- header, which the compact one has no place for
abbrev pub written : Form → Token → List ℕ
written Compact token = compact token.parts
written Flat token = json_text (flat_of token)
written General token = json_text (general_of token)

-- what is written of a token in a form
abbrev pub kept_in : Form → Token → Token
kept_in Compact token = record { parts = token.parts; outer = no_members }
kept_in Flat token = token
kept_in General token = token

-- the general form has four levels around the other members of the unprotected header, two more
-- than the flattened one, and no more than 127 are read
abbrev pub HasRoom : Form → Token → Type 0
HasRoom General token = members_depth token.outer ≤ 123
HasRoom form token = Unit {0}

-- the file is a token in one of its serializations, and this is the line of it in this form, which
-- is no longer than a file may be. It is a file of what is kept of the token
pub record Converts (form : Form) (file answer : List ℕ) : Type 0 where
  pub token : Token
  pub reads : IsToken file token
  pub line_is : answer ≡ line (written form token)
  pub short : length answer ≤ file_max
  pub back : HasRoom form token → IsToken answer (kept_in form token)

-- the lowest condition that fails: of the file, or that what would be written
-- is longer than a file may be
pub data IsConvertRefused (form : Form) (file : List ℕ) (fault : Fault) : Type 0 where
  unread : IsTextRefused file fault → IsConvertRefused form file fault
  too_much : (token : Token) → IsToken file token → file_max < length (line (written form token))
      → fault ≡ unplaced Condition.TooMuch → IsConvertRefused form file fault
