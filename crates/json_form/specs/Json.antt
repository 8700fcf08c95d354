-- The JSON serializations of an SD-JWT, RFC 9901 section 8 and RFC 7515 section 7.2: the members of
-- an object, and the token that they say.
use Rattle.std.specs.Prelude.{◌≡◌, ◌<◌, ℕ, Bool, true, false, ◌||◌, ◌&&◌, ◌⊎◌, List, [], Option, Some, None}
use Rattle.std.specs.List.{AllByRecursion}
use Rattle.std.specs.Option.{is_some}
use Rattle.b64url_text.specs.Base64url.{IsWord}
use Rattle.claim_tree.specs.Tree.{Text, text, Tree, leaf, array, object, Elements, no_elements, element, Members, no_members, member_named, element_at, get}
use Rattle.claim_tree.specs.Removed.{removed}
use Rattle.claim_tree.specs.TreeValues.{IsTexts, Says, MaySay, SaysOr}
use Rattle.claim_tree.specs.JsonText.{Reads}
use Rattle.compact_form.specs.Compact.{jwt, HasWords}
use Rattle.refusals.specs.PartWords.{part_word}
use Rattle.compact_form.specs.declared.parts.JwtParts.{JwtParts}
use Rattle.refusals.specs.declared.fault.Part.TheVariants.{Payload, Protected, Signature, Signatures, Header, Disclosures, KbJwt}
use Rattle.refusals.specs.declared.fault.Part.{Part}
use Rattle.json_form.specs.declared.token.Token.{Token}

abbrev pub found_part : Members → Part → Option Tree
found_part ms part = member_named ms (part_word part)

abbrev pub has_part : Members → Part → Bool
has_part ms part = is_some (found_part ms part)

-- ---- what a member says

-- the tree is this text, which is a base64url word
pub record IsWordTree (t : Tree) (s : Text) : Type 0 where
  pub is : t ≡ leaf (text s)
  pub word : IsWord s

-- the tree is the list of these texts, which are base64url words
pub record AreWordTrees (t : Tree) (texts : List Text) : Type 0 where
  pub are : IsTexts t texts
  pub words : AllByRecursion IsWord texts

-- the tree is the text of this jwt
pub record IsJwtTree (t : Tree) (j : JwtParts) : Type 0 where
  pub is : t ≡ leaf (text (jwt j))
  pub words : HasWords j

-- the tree is the object of these members
abbrev pub IsObjectOf : Tree → Members → Type 0
IsObjectOf t ms = t ≡ object ms

-- ---- an entry: a signature with what belongs to it

-- the unprotected header: the disclosures, the key binding token, and its other
-- members. What is not there is said to be none
pub record HeaderSays (header : Members) (token : Token) : Type 0 where
  pub disclosures : SaysOr AreWordTrees [] (found_part header Disclosures) token.parts.disclosures
  pub binding : MaySay IsJwtTree (found_part header KbJwt) token.parts.binding
  pub outer : token.outer ≡ removed (removed header (part_word Disclosures)) (part_word KbJwt)

pub record EntrySays (entry : Members) (token : Token) : Type 0 where
  pub protected : Says IsWordTree (found_part entry Protected) token.parts.signed.protected
  pub signature : Says IsWordTree (found_part entry Signature) token.parts.signed.signature
  pub header : Members
  pub unprotected : SaysOr IsObjectOf no_members (found_part entry Header) header
  pub says : HeaderSays header token

-- ---- the entries of the general serialization

abbrev pub is_object : Tree → Bool
is_object (object ms) = true
is_object _ = false

abbrev pub are_objects : Elements → Bool
are_objects no_elements = true
are_objects (element t es) = is_object t && are_objects es

-- the tree is a list of objects, the first of which has these members
pub record AreEntries (t : Tree) (first : Members) (later : Elements) : Type 0 where
  pub are : t ≡ array (element (object first) later)
  pub objects : are_objects later ≡ true

-- a member that belongs into an entry stands beside the list of them
abbrev pub has_beside : Members → Bool
has_beside ms = has_part ms Protected || has_part ms Signature || has_part ms Header

-- the header has a member that only that of the first entry may have (RFC 9901 section 8.1)
abbrev pub has_first_only : Option Tree → Bool
has_first_only None = false
has_first_only (Some header) =
    is_some (get header (part_word Disclosures)) || is_some (get header (part_word KbJwt))

-- the entry at this place is not the first, and has such a header
pub record IsStray (entries : Elements) (place : ℕ) : Type 0 where
  pub later : 0 < place
  pub entry : Tree
  pub stands : element_at entries place ≡ Some entry
  pub odd : has_first_only (get entry (part_word Header)) ≡ true

-- ---- the texts

-- the flattened serialization of a token (section 8.1 of RFC 9901, section 7.2.2 of RFC 7515)
pub record IsFlat (token : Token) (bytes : Text) : Type 0 where
  pub members : Members
  pub reads : Reads bytes (object members)
  pub flat : found_part members Signatures ≡ None
  pub payload : Says IsWordTree (found_part members Payload) token.parts.signed.payload
  pub entry : EntrySays members token

-- the general one (section 7.2.1 of RFC 7515), of which the first entry is read
pub record IsGeneral (token : Token) (bytes : Text) : Type 0 where
  pub members : Members
  pub reads : Reads bytes (object members)
  pub first : Members
  pub later : Elements
  pub list : Tree
  pub general : found_part members Signatures ≡ Some list
  pub entries : AreEntries list first later
  pub alone : has_beside members ≡ false
  pub payload : Says IsWordTree (found_part members Payload) token.parts.signed.payload
  pub entry : EntrySays first token
  pub no_stray : (place : ℕ) → IsStray (element (object first) later) place → ⊥

-- the text is a JSON serialization of the token
abbrev pub IsJson : Token → Text → Type 0
IsJson token bytes = IsFlat token bytes ⊎ IsGeneral token bytes
