-- For private functions: what is written in a JSON form.
use Rattle.std.specs.Prelude.{ℕ, List}
use Rattle.json_form.specs.declared.token.Token.{Token}
use Rattle.json_form.specs.Json.{IsJson}
use Rattle.sdjwt_cli.specs.declared.form.Form.{Form}
use Rattle.sdjwt_cli.specs.declared.form.Form.TheVariants.{Compact, Flat, General}

-- for private functions: the text of a JSON form is a serialization of the token
abbrev pub IsJsonOf : Form → Token → List ℕ → Type 0
IsJsonOf Compact token text = Unit {0}
IsJsonOf Flat token text = IsJson token text
IsJsonOf General token text = IsJson token text
