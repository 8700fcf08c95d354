-- A token without members of an unprotected header.
use Rattle.claim_tree.specs.Tree.{no_members}
use Rattle.compact_form.specs.declared.parts.Parts.{Parts}
use Rattle.json_form.specs.declared.token.Token.{Token}

-- the parts alone, as a compact token has them
abbrev pub alone : Parts → Token
alone parts = record { parts = parts; outer = no_members }
