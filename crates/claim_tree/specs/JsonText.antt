-- JSON texts (RFC 8259): what `serde_json` reads of a text, and the compact text of a tree.
use Rattle.std.specs.Prelude.{◌≡◌, ◌⊎◌, true, Some, None}
use Rattle.std.specs.Str.{IsUtf8}
use Rattle.serde_json.specs.Data.{Data}
use Rattle.serde_json.specs.Data as port
use Rattle.serde_json.specs.Read as reading
use Rattle.serde_json.specs.Written as written
use Rattle.serde_json.specs.Find.{of_integer}
use Rattle.claim_tree.specs.Tree.{Text, Leaf, null, flag, whole, text, Tree, leaf, array, object, Elements, no_elements, element, Members, no_members, member}

-- a tree in the words of `serde_json`
abbrev pub leaf_data : Leaf → Data
leaf_data null = port.null
leaf_data (flag b) = port.boolean b
leaf_data (whole z) = port.number (of_integer z)
leaf_data (text s) = port.string s

abbrev mutual
  pub data_of : Tree → Data
  data_of (leaf l) = leaf_data l
  data_of (array es) = port.array (elements_data es)
  data_of (object ms) = port.object (members_data ms)

  pub elements_data : Elements → port.Items
  elements_data no_elements = port.no_items
  elements_data (element t es) = port.item (data_of t) (elements_data es)

  pub members_data : Members → port.Members
  members_data no_members = port.no_members
  members_data (member name t ms) = port.member name (data_of t) (members_data ms)

-- the text reads to this tree, so each of its numbers is whole
pub record Reads (bytes : Text) (t : Tree) : Type 0 where
  pub utf8 : IsUtf8 bytes
  pub value : reading.read bytes ≡ Some (data_of t)

-- the text has no reading
abbrev pub IsNotJson : Text → Type 0
IsNotJson bytes = (¬ IsUtf8 bytes) ⊎ (reading.read bytes ≡ None)

-- the text reads to a value with a number that is not kept as a whole number
pub record IsNotWhole (bytes : Text) : Type 0 where
  pub utf8 : IsUtf8 bytes
  pub data_is : Data
  pub value : reading.read bytes ≡ Some data_is
  pub float : written.has_float data_is ≡ true

-- compact JSON: no blanks, members ascending by the bytes of their names
abbrev pub json_text : Tree → Text
json_text t = written.compact_text (data_of t)
