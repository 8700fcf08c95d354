-- The file that says a query.
use Rattle.std.specs.Prelude.{◌≡◌, List, [], ◌∷◌, codes}
use Rattle.sd_outside.specs.Limits.{file_max}
use Rattle.claim_tree.specs.Tree.{Text, Tree, Leaf, leaf, object, Members, members_len, member_named}
use Rattle.claim_tree.specs.View.{tree_of}
use Rattle.claim_tree.specs.TreeValues.{Says, SaysOr, IsListOf, IsPointer}
use Rattle.file_members.specs.FileForms.{Entry, required, optional, fields_of, found, HasMembers, IsFileRefused}
use Rattle.claim_tree.specs.declared.tree.Tree as code
use Rattle.file_members.specs.declared.field.Field.TheVariants.{Keys, Want, Equal, Never}
use Rattle.file_members.specs.declared.file_fault.FileFault.{FileFault}
use Rattle.hmac_sign.specs.Keys.{IsKeySet}
use Rattle.wallet_core.specs.declared.query.Equal as query
use Rattle.wallet_core.specs.declared.query_file.QueryFile.{QueryFile}

-- the tree is null, a flag, a whole number or a text, and this is it
pub record IsPlain (t : Tree) (value : code.Tree) : Type 0 where
  pub content : Leaf
  pub is : t ≡ leaf content
  pub said : tree_of value ≡ leaf content

-- an object of just a pointer and a plain value
pub record IsEqual (t : Tree) (equal : query.Equal) : Type 0 where
  pub members : Members
  pub is : t ≡ object members
  pub two : members_len members ≡ 2
  pub at : Says IsPointer (member_named members (codes "at")) equal.at
  pub value : Says IsPlain (member_named members (codes "value")) equal.value

-- the members of a query
abbrev pub query_table : List Entry
query_table =
    required Keys IsKeySet ∷ optional Want (IsListOf IsPointer) ∷ optional Equal (IsListOf IsEqual)
    ∷ optional Never (IsListOf IsPointer) ∷ []

-- the file says this
pub record IsQueryFile (bytes : Text) (said : QueryFile) : Type 0 where
  pub members : Members
  pub file : HasMembers file_max (fields_of query_table) bytes members
  pub keys : Says IsKeySet (found members Keys) said.query.keys
  pub want : SaysOr (IsListOf IsPointer) [] (found members Want) said.query.want
  pub equal : SaysOr (IsListOf IsEqual) [] (found members Equal) said.query.equal
  pub never : SaysOr (IsListOf IsPointer) [] (found members Never) said.never

-- why the file says no query; want of memory says nothing
abbrev pub IsQueryFileRefused : Text → FileFault → Type 0
IsQueryFileRefused bytes fault = IsFileRefused file_max query_table bytes fault
