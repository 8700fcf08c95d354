-- Not needed to believe the program's promises: the file that says what is asked of a holder where
-- the caller checks the issuer's signature and makes the holder's, a present order without keys.
use Rattle.std.specs.Prelude.{◌≡◌, ◌≢◌, ℕ, List, [], ◌∷◌, Option, None, Some, codes}
use Rattle.sd_outside.specs.Limits.{file_max}
use Rattle.claim_tree.specs.Tree.{Text, Tree, object, Members, members_len, member_named}
use Rattle.claim_tree.specs.TreeValues.{IsText, IsTexts, Says, MaySay, SaysOr, IsListOf, IsPointer}
use Rattle.file_members.specs.FileForms.{Entry, required, optional, fields_of, found, HasMembers, IsFileRefused}
use Rattle.file_members.specs.declared.field.Field.TheVariants.{Algs, Want, Never, Binding}
use Rattle.file_members.specs.declared.file_fault.FileFault.{FileFault}
use Rattle.key_binding.specs.ShortText.{IsShortText}
use Rattle.holder_core.specs.declared.ask.CallerBinding.{CallerBinding}
use Rattle.holder_core.specs.declared.present_file.UnsignedPresentFile.{UnsignedPresentFile}

-- the tree is this text, which names an algorithm: it is not empty, nor the name of the tokens that
-- nobody signs
pub record IsAlgName (t : Tree) (name : Text) : Type 0 where
  pub is : IsText t name
  pub some : name ≢ []
  pub signs : name ≢ codes "none"

-- how many members it has, with the name of a key or without
abbrev pub binding_len : Option Text → ℕ
binding_len None = 3
binding_len (Some kid) = 4

-- an object of just an algorithm, an audience, a nonce and, where it has one, the name of a key
pub record IsCallerBinding (t : Tree) (said : CallerBinding) : Type 0 where
  pub members : Members
  pub is : t ≡ object members
  pub just : members_len members ≡ binding_len said.kid
  pub alg : Says IsAlgName (member_named members (codes "alg")) said.alg
  pub kid : MaySay IsText (member_named members (codes "kid")) said.kid
  pub aud : Says IsShortText (member_named members (codes "aud")) said.aud
  pub nonce : Says IsShortText (member_named members (codes "nonce")) said.nonce

-- its members
abbrev pub unsigned_present_table : List Entry
unsigned_present_table =
    required Algs IsTexts
    ∷ optional Want (IsListOf IsPointer)
    ∷ optional Never (IsListOf IsPointer)
    ∷ optional Binding IsCallerBinding
    ∷ []

-- the file says this
pub record IsUnsignedPresentFile (bytes : Text) (said : UnsignedPresentFile) : Type 0 where
  pub members : Members
  pub file : HasMembers file_max (fields_of unsigned_present_table) bytes members
  pub algs : Says IsTexts (found members Algs) said.ask.algs
  pub want : SaysOr (IsListOf IsPointer) [] (found members Want) said.ask.want
  pub never : SaysOr (IsListOf IsPointer) [] (found members Never) said.never
  pub binding : MaySay IsCallerBinding (found members Binding) said.ask.binding

-- why the file says no such order; want of memory says nothing
abbrev pub IsUnsignedPresentRefused : Text → FileFault → Type 0
IsUnsignedPresentRefused bytes fault = IsFileRefused file_max unsigned_present_table bytes fault
