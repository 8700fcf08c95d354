-- For private functions: the parts and the disclosures of a token that is borrowed from.
use Rattle.std.specs.Prelude.{List, drop}
use Rattle.claim_tree.specs.Tree.{Text}
use Rattle.compact_form.specs.declared.parts.Parts.{Parts}
use Rattle.compact_form.specs.Compact.{IsCompact}
use Rattle.json_form.specs.declared.token_text.Source.{Source}
use Rattle.json_form.specs.declared.token_text.Source.TheVariants.{Borrowed, Owned}
use Rattle.json_form.specs.declared.token_view.Lent.{Lent}
use Rattle.json_form.specs.declared.token_view.Lent.TheVariants.{Text as InText, Apart}
use Rattle.json_form.specs.declared.disclosures.Rest.{Rest}
use Rattle.json_form.specs.declared.disclosures.Stand.{Stand}
use Rattle.json_form.specs.declared.disclosures.Stand.TheVariants.{Text as OfText, List as OfList}

abbrev pub source_parts : Source → Parts
source_parts (Borrowed parts) = parts
source_parts (Owned parts text) = parts

-- a text that is kept beside the parts is theirs
abbrev pub IsSourceSpelled : Source → Type 0
IsSourceSpelled (Borrowed parts) = Unit {0}
IsSourceSpelled (Owned parts text) = IsCompact parts text

abbrev pub lent_parts : Lent → Parts
lent_parts (InText parts) = parts
lent_parts (Apart parts) = parts.now

-- the texts of a list that are still to come
abbrev pub rest_of : Rest → List Text
rest_of rest = drop rest.at rest.texts.now

abbrev pub to_come : Stand → List Text
to_come (OfText pieces) = pieces
to_come (OfList rest) = rest_of rest
