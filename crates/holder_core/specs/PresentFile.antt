-- The file that says what is asked of a holder.
use Rattle.std.specs.Prelude.{◌≡◌, ℕ, List, [], ◌∷◌, Option, Some, None, is_some, codes}
use Rattle.sd_outside.specs.Limits.{file_max}
use Rattle.claim_tree.specs.Tree.{Text, Tree, object, Members, members_len, member_named}
use Rattle.claim_tree.specs.TreeValues.{IsText, Says, MaySay, SaysOr, IsListOf, IsPointer}
use Rattle.file_members.specs.FileForms.{Entry, required, optional, fields_of, found, HasMembers, IsFileRefused}
use Rattle.file_members.specs.declared.field.Field.TheVariants.{Keys, Want, Never, Binding}
use Rattle.file_members.specs.declared.file_fault.FileFault.{FileFault}
use Rattle.hmac_sign.specs.Keys.{IsKeySet}
use Rattle.key_binding.specs.ShortText.{IsShortText}
use Rattle.hmac_sign.specs.KeyText.{IsKeyText}
use Rattle.holder_core.specs.declared.ask.BindingAsk.{BindingAsk}
use Rattle.holder_core.specs.declared.present_file.PresentFile.{PresentFile}

-- what a key binding token is to say, and the key that signs it
abbrev pub BindingSaid : Type 0
BindingSaid = BindingAsk × List ℕ

-- an object of just a key, its name, an audience and a nonce
pub record IsBindingOrder (t : Tree) (said : BindingSaid) : Type 0 where
  pub members : Members
  pub is : t ≡ object members
  pub four : members_len members ≡ 4
  pub key : Says IsKeyText (member_named members (codes "key")) said.1
  pub kid : Says IsText (member_named members (codes "kid")) said.0.kid
  pub aud : Says IsShortText (member_named members (codes "aud")) said.0.aud
  pub nonce : Says IsShortText (member_named members (codes "nonce")) said.0.nonce

-- what is asked and the key, where both are there
abbrev pub both : Option BindingAsk → Option (List ℕ) → Option BindingSaid
both (Some ask) (Some key) = Some (ask, key)
both _ _ = None

-- the members of a present order
abbrev pub present_table : List Entry
present_table =
    required Keys IsKeySet ∷ optional Want (IsListOf IsPointer)
    ∷ optional Never (IsListOf IsPointer) ∷ optional Binding IsBindingOrder ∷ []

-- the file says this
pub record IsPresentFile (bytes : Text) (said : PresentFile) : Type 0 where
  pub members : Members
  pub file : HasMembers file_max (fields_of present_table) bytes members
  pub keys : Says IsKeySet (found members Keys) said.ask.keys
  pub want : SaysOr (IsListOf IsPointer) [] (found members Want) said.ask.want
  pub never : SaysOr (IsListOf IsPointer) [] (found members Never) said.never
  pub binding : MaySay IsBindingOrder (found members Binding) (both said.ask.binding said.key)
  pub together : is_some said.key ≡ is_some said.ask.binding

-- why the file says no present order; want of memory says nothing
abbrev pub IsPresentFileRefused : Text → FileFault → Type 0
IsPresentFileRefused bytes fault = IsFileRefused file_max present_table bytes fault
