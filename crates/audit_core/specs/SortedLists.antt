-- For private functions: whether each `_sd` ascends.
use Rattle.std.specs.Prelude.{Bool, true, false, ◌&&◌, List, [], ◌∷◌, bytes_eq, not, ◌||◌}
use Rattle.std.specs.Ordering.{is_lt, nat_cmp}
use Rattle.std.specs.Cmp.Lexicographic.{slice_cmp}
use Rattle.claim_tree.specs.Tree.{Text, Tree, leaf, text, array, Elements, no_elements, element}
use Rattle.claim_tree.specs.EveryMember.{every_member}
use Rattle.digest_sites.specs.Given.{Given}
use Rattle.digest_sites.specs.Reserved.{sd_name}

abbrev pub is_before : Text → Text → Bool
is_before x y = is_lt (slice_cmp nat_cmp x y)

-- the elements are texts that ascend, after this one
abbrev pub rise : Text → Elements → Bool
rise least no_elements = true
rise least (element (leaf (text digest)) es) = is_before least digest && rise digest es
rise least (element _ es) = false

abbrev pub is_digest_list : Tree → Bool
is_digest_list (array (element (leaf (text digest)) es)) = rise digest es
is_digest_list _ = false

-- where it is `_sd`, the member is such a list
abbrev pub has_digests_in_order : Text → Tree → Bool
has_digests_in_order name t = not (bytes_eq name sd_name) || is_digest_list t

abbrev pub has_digest_lists : Tree → Bool
has_digest_lists t = every_member has_digests_in_order t

-- of the values of disclosures
abbrev pub values_have : List Given → Bool
values_have [] = true
values_have (x ∷ given) = has_digest_lists x.value && values_have given
