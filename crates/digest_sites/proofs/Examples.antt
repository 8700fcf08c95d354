-- Worked values, by the definitions.
use Rattle.std.proofs.Common.{◌≡◌, [], ◌∷◌, None, true, false, codes, pos, refl}
use Rattle.std.specs.Fmt.{digits}
use Rattle.claim_tree.specs.Tree.{Tree, leaf, whole, text, array, object, no_elements, element, no_members, member}
use Rattle.digest_sites.specs.Reserved.{sd_name, dots_name, element_digest, misuses}
use Rattle.digest_sites.specs.Sites.{own_site, element_site, to_member, to_element, under, sites}

-- {"...":"F"}
abbrev hidden : Tree
hidden = object (member (codes "...") (leaf (text (codes "F"))) no_members)

-- {"_sd":["A","B"],"n":[{"...":"F"}]}
abbrev both : Tree
both = object (member (codes "_sd") (array (element (leaf (text (codes "A"))) (element (leaf (text (codes "B"))) no_elements))) (member (codes "n") (array (element hidden no_elements)) no_members))

in_order : sites both
    ≡ own_site (codes "_sd" ∷ codes "n" ∷ []) (codes "A") ∷ own_site (codes "_sd" ∷ codes "n" ∷ []) (codes "B")
    ∷ under (to_member (codes "n")) (element_site (to_element 0) (codes "F")) ∷ []
unfolding sd_name dots_name digits
in_order = refl

well_used : misuses both ≡ false
unfolding sd_name dots_name digits
well_used = refl

-- {"_sd":1}
no_list : misuses (object (member (codes "_sd") (leaf (whole (pos 1))) no_members)) ≡ true
unfolding sd_name dots_name digits
no_list = refl

-- {"...":"x","y":1} hides no element
second_member : element_digest (object (member (codes "...") (leaf (text (codes "x"))) (member (codes "y") (leaf (whole (pos 1))) no_members))) ≡ None
unfolding sd_name dots_name digits
second_member = refl

-- an element is hidden in an array alone
outside_an_array : misuses hidden ≡ true
unfolding sd_name dots_name digits
outside_an_array = refl
