-- Not needed to believe the program's promises: a policy file of version 1, and that of version 2
-- with the same members.
use Rattle.std.specs.Prelude.{◌≡◌, ◌≢◌, pos, Option, Some, None, codes, option_map}
use Rattle.claim_tree.specs.Tree.{Text, leaf, whole, array, object, Tree, no_elements, element, Members, members_len, member_named}
use Rattle.file_members.specs.FileForms.{found}
use Rattle.claim_tree.specs.JsonText.{Reads}
use Rattle.file_members.specs.declared.field.Field.TheVariants.{Version, Iss, Binding}
use Rattle.verifier_core.specs.PolicyFile.{IsReadAs}
use Rattle.verifier_core.specs.declared.policy_version.PolicyVersion.{PolicyVersion}

-- a list of one value in the place of the value
abbrev pub as_list : Option Tree → Option Tree
as_list member = option_map (λ t. array (element t no_elements)) member

-- objects of the same members, but for the audience, which the second lists
pub record ListsAudience (one two : Tree) : Type 0 where
  pub members : Members
  pub is : one ≡ object members
  pub others : Members
  pub other_is : two ≡ object others
  pub as_many : members_len others ≡ members_len members
  pub aud : member_named others (codes "aud") ≡ as_list (member_named members (codes "aud"))
  pub same : (name : Text) → name ≢ codes "aud"
      → member_named others name ≡ member_named members name

abbrev pub BindingListed : Option Tree → Option Tree → Type 0
BindingListed None other = other ≡ None
BindingListed (Some one) other = (two : Tree) × (other ≡ Some two) × ListsAudience one two

-- the texts of two files, the second of version 2, with the same members, but
-- that it lists the issuer and the audience
pub record SaysInTwo (one two : Text) : Type 0 where
  pub members : Members
  pub reads : Reads one (object members)
  pub others : Members
  pub other_reads : Reads two (object others)
  pub first : IsReadAs PolicyVersion.One (found members Version)
  pub second : found others Version ≡ Some (leaf (whole (pos 2)))
  pub iss : found others Iss ≡ as_list (found members Iss)
  pub binding : BindingListed (found members Binding) (found others Binding)
  pub same : (name : Text) → name ≢ codes "version" → name ≢ codes "iss" → name ≢ codes "binding"
      → member_named others name ≡ member_named members name
