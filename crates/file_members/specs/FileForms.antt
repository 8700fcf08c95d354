-- The files that a command reads: each is one JSON object, whose members stand in a table.
use Rattle.std.specs.Prelude.{◌≡◌, ◌≢◌, ◌<◌, ◌≤◌, ◌⊎◌, ℕ, Bool, true, false, not, List, [], ◌∷◌, length, Option, Some, None, bytes_eq}
use Rattle.std.specs.List.{list_any}
use Rattle.claim_tree.specs.Tree.{Text, Tree, object, Members, names, member_named}
use Rattle.claim_tree.specs.TreeValues.{HasValue}
use Rattle.claim_tree.specs.JsonText.{Reads, IsNotJson, IsNotWhole}
use Rattle.file_members.specs.FileWords.{field_word}
use Rattle.file_members.specs.declared.field.Field.{Field}
use Rattle.file_members.specs.declared.file_fault.FileFault.{FileFault}
use Rattle.file_members.specs.declared.file_fault.FileFault.TheVariants.{Memory, TooLong, NotJson, NotWhole, NotObject, Unknown, Missing, Wrong}

-- ---- the table of a file

-- a member of a file: its name, whether the file must have it, and its form
pub record Entry : Type 1 where
  pub field : Field
  pub is_required : Bool
  pub Form : Tree → Type 0

abbrev pub required : {X : Type 0} → Field → (Tree → X → Type 0) → Entry
required field Is = record { field = field; is_required = true; Form = HasValue Is }

abbrev pub optional : {X : Type 0} → Field → (Tree → X → Type 0) → Entry
optional field Is = record { field = field; is_required = false; Form = HasValue Is }

abbrev pub fields_of : List Entry → List Field
fields_of [] = []
fields_of (entry ∷ table) = entry.field ∷ fields_of table

abbrev pub found : Members → Field → Option Tree
found ms field = member_named ms (field_word field)

-- the member is there and has its form, or is not there and need not be
pub data MemberMeets (entry : Entry) (ms : Members) : Type 0 where
  present : (t : Tree) → found ms entry.field ≡ Some t → entry.Form t → MemberMeets entry ms
  absent : found ms entry.field ≡ None → entry.is_required ≡ false → MemberMeets entry ms

-- the member is not there and must be, or is there without its form
pub data MemberFails (entry : Entry) (ms : Members) (fault : FileFault) : Type 0 where
  missing : found ms entry.field ≡ None → entry.is_required ≡ true → fault ≡ Missing entry.field
      → MemberFails entry ms fault
  wrong : (t : Tree) → found ms entry.field ≡ Some t → (entry.Form t → ⊥)
      → fault ≡ Wrong entry.field → MemberFails entry ms fault

-- the fault of the first member, in the order of the table, that is missing or wrong
abbrev pub IsFirstFault : List Entry → Members → FileFault → Type 0
IsFirstFault [] ms fault = ⊥
IsFirstFault (entry ∷ table) ms fault =
    MemberFails entry ms fault ⊎ (MemberMeets entry ms × IsFirstFault table ms fault)

-- ---- the file

abbrev pub is_known : List Field → Text → Bool
is_known fields name = list_any (λ field. bytes_eq (field_word field) name) fields

-- a member is there that is none of the fields
abbrev pub has_unknown : List Field → Members → Bool
has_unknown fields ms = list_any (λ name. not (is_known fields name)) (names ms)

-- the file has no more bytes than the most, and is the JSON text of an object of these members
pub record IsObjectFile (most : ℕ) (bytes : Text) (ms : Members) : Type 0 where
  pub short : length bytes ≤ most
  pub reads : Reads bytes (object ms)

-- the same, and each member is one of the fields
pub record HasMembers (most : ℕ) (fields : List Field) (bytes : Text) (ms : Members) : Type 0 where
  pub object : IsObjectFile most bytes ms
  pub known : has_unknown fields ms ≡ false

-- the file is JSON, and no object
pub record IsNotObject (most : ℕ) (bytes : Text) : Type 0 where
  pub short : length bytes ≤ most
  pub tree : Tree
  pub reads : Reads bytes tree
  pub other : (ms : Members) → tree ≢ object ms

-- why a file is no object of such members, in the order in which it is judged;
-- want of memory says nothing
abbrev pub HasNoMembers : ℕ → List Field → Text → FileFault → Type 0
HasNoMembers most fields bytes Memory = Unit {0}
HasNoMembers most fields bytes TooLong = most < length bytes
HasNoMembers most fields bytes NotJson = (length bytes ≤ most) × IsNotJson bytes
HasNoMembers most fields bytes NotWhole = (length bytes ≤ most) × IsNotWhole bytes
HasNoMembers most fields bytes NotObject = IsNotObject most bytes
HasNoMembers most fields bytes Unknown =
    (ms : Members) × IsObjectFile most bytes ms × (has_unknown fields ms ≡ true)
HasNoMembers most fields bytes (Missing field) = ⊥
HasNoMembers most fields bytes (Wrong field) = ⊥

-- the file has known members, and this is the first fault of them
pub record HasFirstFault (most : ℕ) (table : List Entry) (bytes : Text) (fault : FileFault)
    : Type 0 where
  pub members : Members
  pub file : HasMembers most (fields_of table) bytes members
  pub first : IsFirstFault table members fault

-- why a file is refused: it is no object of known members, or else by the first
-- fault of them; want of memory says nothing
abbrev pub IsFileRefused : ℕ → List Entry → Text → FileFault → Type 0
IsFileRefused most table bytes (Missing field) = HasFirstFault most table bytes (Missing field)
IsFileRefused most table bytes (Wrong field) = HasFirstFault most table bytes (Wrong field)
IsFileRefused most table bytes fault = HasNoMembers most (fields_of table) bytes fault
