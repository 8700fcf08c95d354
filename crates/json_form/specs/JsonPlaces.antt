-- The places at which a text fails to be a JSON serialization, in the order in
-- which they are judged.
use Rattle.std.specs.Prelude.{◌≡◌, ◌≢◌, ◌+◌, ℕ, true, Some, None}
use Rattle.claim_tree.specs.Tree.{Text, Tree, array, object, Elements, element, Members}
use Rattle.claim_tree.specs.TreeValues.{HasValue}
use Rattle.claim_tree.specs.JsonText.{Reads, IsNotJson, IsNotWhole}
use Rattle.refusals.specs.declared.fault.Part.TheVariants.{Payload, Protected, Signature, Signatures, Header, Disclosures, KbJwt}
use Rattle.refusals.specs.declared.fault.Part.{Part}
use Rattle.refusals.specs.declared.fault.JsonPlace.{JsonPlace}
use Rattle.refusals.specs.declared.fault.JsonPlace.TheVariants.{NotJson, NotWhole, NotObject, Missing, Wrong, Stray}
use Rattle.refusals.specs.Lowest.{IsLowestBy}
use Rattle.json_form.specs.Json.{found_part, has_beside, IsWordTree, AreWordTrees, IsJwtTree, IsObjectOf, AreEntries, IsStray}

-- ---- the order

abbrev pub part_row : Part → ℕ
part_row Payload = 3
part_row Signatures = 4
part_row Protected = 5
part_row Signature = 6
part_row Header = 7
part_row Disclosures = 8
part_row KbJwt = 9

-- the row of a place
abbrev pub row_of : JsonPlace → ℕ
row_of NotJson = 0
row_of NotWhole = 1
row_of NotObject = 2
row_of (Missing part) = part_row part
row_of (Wrong part) = part_row part
row_of (Stray entry) = 10 + entry

-- ---- when a place applies

-- a member that must be a base64url word is not there, or is something else
pub data IsNoWord (ms : Members) (part : Part) (place : JsonPlace) : Type 0 where
  missing : place ≡ Missing part → found_part ms part ≡ None → IsNoWord ms part place
  other : (t : Tree) → place ≡ Wrong part → found_part ms part ≡ Some t
      → (HasValue IsWordTree t → ⊥) → IsNoWord ms part place

-- a member that may be left out is there, and says no such value
pub record IsWrongMember {X : Type 0} (Is : Tree → X → Type 0) (ms : Members) (part : Part)
    (place : JsonPlace) : Type 0 where
  pub named : place ≡ Wrong part
  pub tree : Tree
  pub stands : found_part ms part ≡ Some tree
  pub no_value : HasValue Is tree → ⊥

-- the members of the entry that is read: all of a flattened object, those of
-- the first entry of a general one
pub data IsEntry (ms entry : Members) : Type 0 where
  flat : found_part ms Signatures ≡ None → entry ≡ ms → IsEntry ms entry
  first : (later : Elements)
      → found_part ms Signatures ≡ Some (array (element (object entry) later)) → IsEntry ms entry

-- `signatures` is there, and is no list of objects with a first one, or has
-- beside it what belongs into an entry
pub data AreNoEntries (ms : Members) : Type 0 where
  no_list : (t : Tree) → found_part ms Signatures ≡ Some t
      → ((first : Members) (later : Elements) → AreEntries t first later → ⊥) → AreNoEntries ms
  beside : (t : Tree) → found_part ms Signatures ≡ Some t → has_beside ms ≡ true → AreNoEntries ms

-- what an entry fails by
pub data EntryFails (entry : Members) (place : JsonPlace) : Type 0 where
  protected : IsNoWord entry Protected place → EntryFails entry place
  signature : IsNoWord entry Signature place → EntryFails entry place
  header : IsWrongMember IsObjectOf entry Header place → EntryFails entry place
  disclosures : (header : Members) → found_part entry Header ≡ Some (object header)
      → IsWrongMember AreWordTrees header Disclosures place → EntryFails entry place
  kb_jwt : (header : Members) → found_part entry Header ≡ Some (object header)
      → IsWrongMember IsJwtTree header KbJwt place → EntryFails entry place

-- what an object fails by
pub data ObjectFails (ms : Members) (place : JsonPlace) : Type 0 where
  payload : IsNoWord ms Payload place → ObjectFails ms place
  signatures : place ≡ Wrong Signatures → AreNoEntries ms → ObjectFails ms place
  entry : (members : Members) → IsEntry ms members → EntryFails members place → ObjectFails ms place
  stray : (entries : Elements) (e : ℕ) → place ≡ Stray e
      → found_part ms Signatures ≡ Some (array entries) → IsStray entries e → ObjectFails ms place

-- what a text fails by
pub data JsonFails (bytes : Text) (place : JsonPlace) : Type 0 where
  not_json : place ≡ NotJson → IsNotJson bytes → JsonFails bytes place
  not_whole : place ≡ NotWhole → IsNotWhole bytes → JsonFails bytes place
  not_object : (t : Tree) → place ≡ NotObject → Reads bytes t → ((ms : Members) → t ≢ object ms)
      → JsonFails bytes place
  members : (ms : Members) → Reads bytes (object ms) → ObjectFails ms place → JsonFails bytes place

-- ---- the first that applies

-- the place of the first row that applies to the text
abbrev pub IsJsonPlace : Text → JsonPlace → Type 0
IsJsonPlace bytes place = IsLowestBy row_of (JsonFails bytes) place
