-- Worked values, by the definitions.
use Rattle.std.proofs.Common.{◌≡◌, negsuc, [], ◌∷◌, Some, None, true, codes, refl}
use Rattle.std.specs.Fmt.{digits}
use Rattle.json.specs.Print.{escape_byte}
use Rattle.claim_tree.specs.Tree.{Tree, leaf, null, flag, whole, text, array, object, no_elements, element, Members, no_members, member, depth, inserted, member_named}
use Rattle.claim_tree.specs.JsonText.{json_text}
use Rattle.claim_tree.specs.Path.{pointer_text, tree_at}

-- {"n":["A"]}
abbrev names_of : Tree
names_of = object (member (codes "n") (array (element (leaf (text (codes "A"))) no_elements)) no_members)

depth_of_it : depth names_of ≡ 2
depth_of_it = refl

depth_of_empty : depth (array no_elements) ≡ 1
depth_of_empty = refl

found : tree_at names_of (codes "n" ∷ codes "0" ∷ []) ≡ Some (leaf (text (codes "A")))
unfolding digits
found = refl

no_leading_zero : tree_at names_of (codes "n" ∷ codes "00" ∷ []) ≡ None
unfolding digits
no_leading_zero = refl

past_the_end : tree_at names_of (codes "n" ∷ codes "1" ∷ []) ≡ None
unfolding digits
past_the_end = refl

no_new_element : tree_at names_of (codes "n" ∷ codes "-" ∷ []) ≡ None
unfolding digits
no_new_element = refl

whole_value : pointer_text [] ≡ []
whole_value = refl

escapes : pointer_text (codes "a/b" ∷ codes "~" ∷ []) ≡ codes "/a~1b/~0"
escapes = refl

-- of two members of one name the last counts, and they stand by their bytes
abbrev two_members : Members
two_members = inserted (inserted (inserted no_members (codes "b") (leaf null)) (codes "a") (leaf (flag true))) (codes "b") (leaf (whole (negsuc 0)))

last_counts : member_named two_members (codes "b") ≡ Some (leaf (whole (negsuc 0)))
last_counts = refl

written : json_text (object two_members) ≡ codes "{\"a\":true,\"b\":-1}"
unfolding digits escape_byte
written = refl
