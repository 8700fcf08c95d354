-- Not needed to believe the program's promises: the file that says an order for who signs
-- elsewhere, an order file without a key.
use Rattle.std.specs.Prelude.{◌⊎◌, List, [], ◌∷◌, take}
use Rattle.sd_outside.specs.Limits.{file_max}
use Rattle.claim_tree.specs.Tree.{Text, Members}
use Rattle.claim_tree.specs.View.{tree_of}
use Rattle.claim_tree.specs.TreeValues.{IsText, Says, MaySay, SaysOr, IsListOf, IsPointer}
use Rattle.file_members.specs.FileForms.{Entry, MemberMeets, required, optional, fields_of, found, HasMembers, HasNoMembers, IsFileRefused}
use Rattle.file_members.specs.FileRefusals.{IsMemberRefused}
use Rattle.file_members.specs.declared.field.Field.{Field}
use Rattle.file_members.specs.declared.field.Field.TheVariants.{Payload, Hide, Decoys, Kid, Typ, SdAlg}
use Rattle.file_members.specs.declared.file_fault.FileFault.{FileFault}
use Rattle.disclosure.specs.declared.digests.HashAlg.{HashAlg}
use Rattle.issuer_core.specs.OrderFile.{IsValue, IsDecoy, IsHashText}
use Rattle.issuer_core.specs.declared.order.Decoy.{Decoy}
use Rattle.issuer_core.specs.declared.order.Order.{Order}
use Rattle.issuer_core.specs.declared.order_file.Head.{Head}

-- its members, each as that of an order file
abbrev pub unsigned_order_table : List Entry
unsigned_order_table =
    required Payload IsValue
    ∷ optional Hide (IsListOf IsPointer)
    ∷ optional Decoys (IsListOf IsDecoy)
    ∷ optional Kid IsText
    ∷ optional Typ IsText
    ∷ optional SdAlg IsHashText
    ∷ []

-- the file says this order
pub record IsUnsignedOrderFile (bytes : Text) (order : Order) : Type 0 where
  pub members : Members
  pub file : HasMembers file_max (fields_of unsigned_order_table) bytes members
  pub payload : Says IsValue (found members Payload) (tree_of order.payload)
  pub hide : SaysOr (IsListOf IsPointer) [] (found members Hide) order.hide
  pub decoys : SaysOr (IsListOf IsDecoy) [] (found members Decoys) order.decoys
  pub kid : MaySay IsText (found members Kid) order.kid
  pub typ : MaySay IsText (found members Typ) order.typ
  pub hash : SaysOr IsHashText HashAlg.Sha256 (found members SdAlg) order.hash

-- why the file says no such order; want of memory says nothing
abbrev pub IsUnsignedOrderRefused : Text → FileFault → Type 0
IsUnsignedOrderRefused bytes fault = IsFileRefused file_max unsigned_order_table bytes fault

-- ---- for private functions: what it has in common with an order file that has a key

-- the first members of each order file, before the key
abbrev pub head_table : List Entry
head_table = take 3 unsigned_order_table

-- the members say these places
pub record SaysPlaces (ms : Members) (paths : List (List Text)) (entries : List Decoy)
    : Type 0 where
  pub hide : SaysOr (IsListOf IsPointer) [] (found ms Hide) paths
  pub decoys : SaysOr (IsListOf IsDecoy) [] (found ms Decoys) entries

-- its members have a payload, and say its places
pub record SaysHead (head : Head) : Type 0 where
  pub payload : MemberMeets (required Payload IsValue) head.members
  pub places : SaysPlaces head.members head.hide head.decoys

-- one member is refused, and those before it in the table meet their entries
abbrev pub IsFirstRefused : List Entry → Members → FileFault → Type 0
IsFirstRefused [] ms fault = ⊥
IsFirstRefused (entry ∷ table) ms fault =
    IsMemberRefused entry ms fault ⊎ (MemberMeets entry ms × IsFirstRefused table ms fault)

-- the file is no object of these fields, or one of its first members is refused
abbrev pub IsHeadRefused : List Field → Text → FileFault → Type 0
IsHeadRefused fields bytes fault =
    HasNoMembers file_max fields bytes fault
    ⊎ ((ms : Members) × HasMembers file_max fields bytes ms × IsFirstRefused head_table ms fault)

-- the members say this order
pub record SaysOrder (ms : Members) (order : Order) : Type 0 where
  pub payload : Says IsValue (found ms Payload) (tree_of order.payload)
  pub places : SaysPlaces ms order.hide order.decoys
  pub kid : MaySay IsText (found ms Kid) order.kid
  pub typ : MaySay IsText (found ms Typ) order.typ
  pub hash : SaysOr IsHashText HashAlg.Sha256 (found ms SdAlg) order.hash
