-- Members of a policy, computed from the definitions.
use Rattle.std.specs.Prelude.{◌≡◌, true, false, codes, refl}
use Rattle.claim_tree.specs.Tree.{leaf, null, no_members, member}
use Rattle.file_members.specs.FileForms.{has_unknown}
use Rattle.verifier_core.specs.PolicyFile.{policy_fields}

known : has_unknown policy_fields (member (codes "iss") (leaf null) (member (codes "keys") (leaf null) no_members)) ≡ false
known = refl

unknown : has_unknown policy_fields (member (codes "Keys") (leaf null) no_members) ≡ true
unknown = refl
