-- The policy of a verifier, and the file that says it.
use Rattle.std.specs.Prelude.{◌≡◌, ◌≢◌, pos, List, [], ◌∷◌, Option, Some, codes}
use Rattle.sd_outside.specs.Limits.{age_max, file_max, skew_max}
use Rattle.claim_tree.specs.Tree.{Text, Tree, leaf, whole, object, Members, members_len, member_named}
use Rattle.claim_tree.specs.TreeValues.{IsText, IsTexts, IsWholeUpTo, Says, MaySay, SaysOr}
use Rattle.file_members.specs.FileForms.{Entry, required, optional, fields_of, found, HasMembers, HasNoMembers, IsFirstFault}
use Rattle.file_members.specs.declared.field.Field.{Field}
use Rattle.file_members.specs.declared.field.Field.TheVariants.{Version, Keys, Algs, Typ, Iss, Require, Skew, Binding}
use Rattle.file_members.specs.declared.file_fault.FileFault.{FileFault}
use Rattle.file_members.specs.declared.file_fault.FileFault.TheVariants.{Missing, Wrong}
use Rattle.hmac_sign.specs.Keys.{IsKeySet}
use Rattle.key_binding.specs.ShortText.{IsShortText}
use Rattle.key_binding.specs.declared.policy.BindingPolicy.{BindingPolicy}
use Rattle.verifier_core.specs.declared.policy.Policy.{Policy}
use Rattle.verifier_core.specs.declared.policy_version.PolicyVersion.{PolicyVersion}
use Rattle.verifier_core.specs.PolicyVersion.{IsVersion, IsIssuers, IsAudiences}

-- an object with four members: the audiences, the nonce, the keys of the
-- holders, and an age in seconds
pub record IsBindingPolicy (version : PolicyVersion) (t : Tree) (binding : BindingPolicy)
    : Type 0 where
  pub members : Members
  pub is : t ≡ object members
  pub four : members_len members ≡ 4
  pub aud : Says (IsAudiences version) (member_named members (codes "aud")) binding.aud
  pub nonce : Says IsShortText (member_named members (codes "nonce")) binding.nonce
  pub keys : Says IsKeySet (member_named members (codes "keys")) binding.keys
  pub max_age : Says (IsWholeUpTo age_max) (member_named members (codes "max_age")) binding.max_age

-- the members of a policy file of this version
abbrev pub policy_table : PolicyVersion → List Entry
policy_table version =
    optional Version IsVersion
    ∷ required Keys IsKeySet
    ∷ optional Algs IsTexts
    ∷ optional Typ IsText
    ∷ optional Iss (IsIssuers version)
    ∷ optional Require IsTexts
    ∷ optional Skew (IsWholeUpTo skew_max)
    ∷ optional Binding (IsBindingPolicy version)
    ∷ []

-- the members that a policy file of any version may have
abbrev pub policy_fields : List Field
policy_fields = fields_of (policy_table PolicyVersion.One)

-- the file says this policy
pub record IsPolicyFile (bytes : Text) (policy : Policy) : Type 0 where
  pub members : Members
  pub file : HasMembers file_max policy_fields bytes members
  pub version : PolicyVersion
  pub version_is : SaysOr IsVersion PolicyVersion.One (found members Version) version
  pub keys : Says IsKeySet (found members Keys) policy.keys
  pub algs : SaysOr IsTexts (codes "HS256" ∷ []) (found members Algs) policy.algs
  pub typ : MaySay IsText (found members Typ) policy.typ
  pub iss : MaySay (IsIssuers version) (found members Iss) policy.iss
  pub require : SaysOr IsTexts [] (found members Require) policy.require
  pub skew : SaysOr (IsWholeUpTo skew_max) 0 (found members Skew) policy.skew
  pub binding : MaySay (IsBindingPolicy version) (found members Binding) policy.binding

-- the version by which a file is read: the second where its member says so
abbrev pub IsReadAs : PolicyVersion → Option Tree → Type 0
IsReadAs PolicyVersion.One member = member ≢ Some (leaf (whole (pos 2)))
IsReadAs PolicyVersion.Two member = member ≡ Some (leaf (whole (pos 2)))

-- the members of the file are known, and this is the first fault of them
pub record HasPolicyFault (bytes : Text) (fault : FileFault) : Type 0 where
  pub members : Members
  pub file : HasMembers file_max policy_fields bytes members
  pub version : PolicyVersion
  pub read_as : IsReadAs version (found members Version)
  pub first : IsFirstFault (policy_table version) members fault

-- why the file says no policy: it is no object of known members, or else by the
-- first fault of them; want of memory says nothing
abbrev pub IsPolicyFileRefused : Text → FileFault → Type 0
IsPolicyFileRefused bytes (Missing field) = HasPolicyFault bytes (Missing field)
IsPolicyFileRefused bytes (Wrong field) = HasPolicyFault bytes (Wrong field)
IsPolicyFileRefused bytes fault = HasNoMembers file_max policy_fields bytes fault
