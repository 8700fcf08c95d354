-- For private functions: why a disclosure is not read.
use Rattle.claim_tree.specs.declared.text.ReadError.{ReadError}
use Rattle.disclosure.specs.declared.errors.DisclosureError.{DisclosureError}

-- the refusals of its JSON
abbrev pub of_read : ReadError → DisclosureError
of_read ReadError.Memory = DisclosureError.Memory
of_read ReadError.NotJson = DisclosureError.NotJson
of_read ReadError.NotWhole = DisclosureError.NotWhole
