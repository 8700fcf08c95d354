-- What an issuer is asked for, and the file that says it.
use Rattle.std.specs.Prelude.{◌≡◌, ◌≤◌, ℕ, List, [], ◌∷◌, length, codes}
use Rattle.sd_outside.specs.Limits.{count_max, file_max}
use Rattle.claim_tree.specs.Tree.{Text, text, Tree, leaf, object, Members, members_len, member_named}
use Rattle.claim_tree.specs.View.{tree_of}
use Rattle.claim_tree.specs.TreeValues.{IsText, IsWholeUpTo, Says, MaySay, SaysOr, IsListOf, IsPointer}
use Rattle.file_members.specs.FileForms.{Entry, required, optional, fields_of, found, IsObjectFile, HasMembers, IsFileRefused}
use Rattle.file_members.specs.declared.field.Field.{Field}
use Rattle.file_members.specs.declared.field.Field.TheVariants.{Payload, Hide, Decoys, Key, Kid, Typ, SdAlg}
use Rattle.file_members.specs.declared.file_fault.FileFault.{FileFault}
use Rattle.disclosure.specs.Digest.{hash_name}
use Rattle.disclosure.specs.declared.digests.HashAlg.{HashAlg}
use Rattle.hmac_sign.specs.Algs.{alg_text, key_least}
use Rattle.hmac_sign.specs.Hmac.{AlgKey, alg_key}
use Rattle.hmac_sign.specs.KeyText.{IsKeyBytes}
use Rattle.hmac_sign.specs.declared.alg.Alg.{Alg}
use Rattle.issuer_core.specs.declared.order.Decoy.{Decoy}
use Rattle.issuer_core.specs.declared.order_file.IssueFile.{IssueFile}
use Rattle.issuer_core.specs.Order.{Order, order_of}

-- any JSON value
abbrev pub IsValue : Tree → Tree → Type 0
IsValue t value = value ≡ t

-- an object with two members, a pointer and a count
pub record IsDecoy (t : Tree) (entry : Decoy) : Type 0 where
  pub members : Members
  pub is : t ≡ object members
  pub two : members_len members ≡ 2
  pub at : Says IsPointer (member_named members (codes "at")) entry.at
  pub count : Says (IsWholeUpTo count_max) (member_named members (codes "count")) entry.count

-- the tree is the name of this hash
abbrev pub IsHashText : Tree → HashAlg → Type 0
IsHashText t hash = t ≡ leaf (text (hash_name hash))

-- the tree is the name of this algorithm
abbrev pub IsAlgText : Tree → Alg → Type 0
IsAlgText t alg = t ≡ leaf (text (alg_text alg))

-- the same, and so many bytes of a key are enough for it (RFC 7518 section 3.2)
pub record IsAlgFor (size : ℕ) (t : Tree) (alg : Alg) : Type 0 where
  pub named : IsAlgText t alg
  pub enough : key_least alg ≤ size

-- the file has the key of these bytes
pub record HasKey (bytes : Text) (key : List ℕ) : Type 0 where
  pub members : Members
  pub file : IsObjectFile file_max bytes members
  pub says : Says IsKeyBytes (found members Key) key

-- the tree is the name of this algorithm, for which the file's own key has enough bytes
pub record IsAlgOf (bytes : Text) (t : Tree) (alg : Alg) : Type 0 where
  pub key : List ℕ
  pub has : HasKey bytes key
  pub is_for : IsAlgFor (length key) t alg

-- the members of an order file
abbrev pub order_table : Text → List Entry
order_table bytes =
    required Payload IsValue
    ∷ optional Hide (IsListOf IsPointer)
    ∷ optional Decoys (IsListOf IsDecoy)
    ∷ required Key IsKeyBytes
    ∷ optional Kid IsText
    ∷ optional Typ IsText
    ∷ optional Field.Alg (IsAlgOf bytes)
    ∷ optional SdAlg IsHashText
    ∷ []

-- the file says this order and this key
pub record IsOrderFile (bytes : Text) (said : IssueFile) : Type 0 where
  pub members : Members
  pub file : HasMembers file_max (fields_of (order_table bytes)) bytes members
  pub payload : Says IsValue (found members Payload) (tree_of said.order.payload)
  pub hide : SaysOr (IsListOf IsPointer) [] (found members Hide) said.order.hide
  pub decoys : SaysOr (IsListOf IsDecoy) [] (found members Decoys) said.order.decoys
  pub key_bytes : List ℕ
  pub says_key : Says IsKeyBytes (found members Key) key_bytes
  pub kid : MaySay IsText (found members Kid) said.order.kid
  pub typ : MaySay IsText (found members Typ) said.order.typ
  pub alg : Alg
  pub says_alg : SaysOr (IsAlgFor (length key_bytes)) Alg.Hs256 (found members Field.Alg) alg
  pub key : said.key ≡ alg_key alg key_bytes
  pub hash : SaysOr IsHashText HashAlg.Sha256 (found members SdAlg) said.order.hash

-- the file asks for this order with this key
pub record AsksFor (bytes : Text) (order : Order) (key : AlgKey) : Type 0 where
  pub said : IssueFile
  pub is_order : IsOrderFile bytes said
  pub order_is : order ≡ order_of said.order
  pub key_is : key ≡ said.key

-- why the file says no order; want of memory says nothing
abbrev pub IsOrderFileRefused : Text → FileFault → Type 0
IsOrderFileRefused bytes fault = IsFileRefused file_max (order_table bytes) bytes fault
