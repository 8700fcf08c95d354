-- The words of the forms in which a token is written.
use Rattle.std.specs.Prelude.{ℕ, List, Option, None, Some, codes, bytes_eq, if◌then◌else◌}
use Rattle.sdjwt_cli.specs.declared.form.Form.{Form}
use Rattle.sdjwt_cli.specs.declared.form.Form.TheVariants.{Compact, Flat, General}

abbrev pub form_of : List ℕ → Option Form
form_of word =
    if bytes_eq word (codes "compact") then Some Compact
    else if bytes_eq word (codes "flat") then Some Flat
    else if bytes_eq word (codes "general") then Some General else None
