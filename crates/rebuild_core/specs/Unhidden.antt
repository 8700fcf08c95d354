-- For private functions: trees in which no digest stands.
use Rattle.std.specs.Prelude.{Bool, not, ◌&&◌, bytes_eq}
use Rattle.claim_tree.specs.Tree.{Text, Tree}
use Rattle.claim_tree.specs.EveryMember.{every_member}
use Rattle.digest_sites.specs.Reserved.{sd_name, dots_name}

-- the name tells of no digest
abbrev pub is_unhidden_member : Text → Tree → Bool
is_unhidden_member name t = not (bytes_eq name sd_name) && not (bytes_eq name dots_name)

-- no object in the tree has a member `_sd` or `...`
abbrev pub is_unhidden : Tree → Bool
is_unhidden t = every_member is_unhidden_member t
