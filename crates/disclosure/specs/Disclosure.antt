-- Disclosures, RFC 9901 section 4.2.
use Rattle.std.specs.Prelude.{Option, Some, None}
use Rattle.b64url_text.specs.Base64url.{Decodes, b64}
use Rattle.claim_tree.specs.Tree.{Text, text, Tree, leaf, array, no_elements, element}
use Rattle.claim_tree.specs.JsonText.{Reads, json_text}

-- the list of a member has the salt, the name and the value (section 4.2.1),
-- that of an element the salt and the value (section 4.2.2)
abbrev pub array_of : Tree → Option Text → Tree → Tree
array_of salt (Some name) value =
    array (element salt (element (leaf (text name)) (element value no_elements)))
array_of salt None value = array (element salt (element value no_elements))

-- the text is that of bytes that read to the list
pub record IsDisclosure (text : Text) (salt : Tree) (name : Option Text) (value : Tree)
    : Type 0 where
  pub json : Text
  pub decodes : Decodes text json
  pub reads : Reads json (array_of salt name value)

-- the text over the compact JSON of the list
abbrev pub disclosure_text : Tree → Option Text → Tree → Text
disclosure_text salt name value = b64 (json_text (array_of salt name value))
