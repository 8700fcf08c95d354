-- Worked values, by the definitions.
use Rattle.std.proofs.Common.{◌≡◌, List, [], ◌∷◌, Some, None, true, false, codes, pos, refl}
use Rattle.std.specs.Fmt.{digits}
use Rattle.claim_tree.specs.Tree.{Leaf, Tree, leaf, whole, array, object, no_elements, element, no_members, member}
use Rattle.marked_tree.specs.Marked.{Marked, MarkedMembers, marked_leaf, marked_array, marked_object, no_marked_elements, marked_element, no_marked_members, marked_member, put, prune}
use Rattle.marked_tree.specs.Ways.{ranked, ways, closing}
use Rattle.marked_tree.specs.MarkedCalls.{marked_inserted}
use Rattle.marked_tree.specs.Paths.{Path, mark, hidden_count, is_among, mark_path, chosen}
use Rattle.marked_tree.specs.Numbers.{has}

abbrev one : Leaf
one = whole (pos 1)

-- {"a":{"b":1},"c":[1,1]}
abbrev claims : Tree
claims = object (member (codes "a") (object (member (codes "b") (leaf one) no_members)) (member (codes "c") (array (element (leaf one) (element (leaf one) no_elements))) no_members))

-- /c, /a/b and /c/1, the last twice
abbrev hide : List Path
hide = (codes "c" ∷ []) ∷ (codes "c" ∷ codes "1" ∷ []) ∷ (codes "a" ∷ codes "b" ∷ []) ∷ (codes "c" ∷ codes "1" ∷ []) ∷ []

abbrev hidden : Marked
hidden =
    marked_object
    (marked_member (codes "a") None (marked_object (marked_member (codes "b") (Some 0) (marked_leaf one) no_marked_members))
    (marked_member (codes "c") (Some 2) (marked_array (marked_element None (marked_leaf one) (marked_element (Some 1) (marked_leaf one) no_marked_elements))) no_marked_members))

numbered : mark claims hide ≡ hidden
unfolding digits
numbered = refl

counted : hidden_count claims hide ≡ 3
unfolding digits
counted = refl

in_order : closing (is_among hide) claims ≡ (codes "a" ∷ codes "b" ∷ []) ∷ (codes "c" ∷ codes "1" ∷ []) ∷ (codes "c" ∷ []) ∷ []
unfolding digits
in_order = refl

inside_first : mark_path hidden 1 ≡ Some (codes "c" ∷ codes "1" ∷ [])
unfolding digits
inside_first = refl

nowhere : mark_path hidden 3 ≡ None
unfolding digits
nowhere = refl

-- a front alone hides nothing
front_only : hidden_count claims ((codes "a" ∷ codes "b" ∷ codes "d" ∷ []) ∷ []) ≡ 0
unfolding digits
front_only = refl

-- {"a":{},"c":[1]}
left : prune hidden (has (2 ∷ [])) ≡ marked_object (marked_member (codes "a") None (marked_object no_marked_members) (marked_member (codes "c") (Some 2) (marked_array (marked_element None (marked_leaf one) no_marked_elements)) no_marked_members))
left = refl

renumbered : ranked (prune hidden (has (2 ∷ []))) (has (2 ∷ [])) ≡ marked_object (marked_member (codes "a") None (marked_object no_marked_members) (marked_member (codes "c") (Some 0) (marked_array (marked_element None (marked_leaf one) no_marked_elements)) no_marked_members))
renumbered = refl

above : ways hidden ≡ (0, []) ∷ (2, []) ∷ (1, 2 ∷ []) ∷ []
above = refl

-- what is wanted is chosen with what is above it
with_parent : chosen hidden ((codes "c" ∷ codes "1" ∷ []) ∷ []) 2 ≡ true
unfolding digits
with_parent = refl

not_inside : chosen hidden ((codes "c" ∷ []) ∷ []) 1 ≡ false
unfolding digits
not_inside = refl

abbrev two : MarkedMembers
two = marked_member (codes "a") (Some 1) (marked_leaf one) (marked_member (codes "c") None (marked_leaf one) no_marked_members)

put_keeps : put (codes "a") (Some 5) (marked_array no_marked_elements) two ≡ two
put_keeps = refl

insert_replaces : marked_inserted two (codes "a") (Some 5) (marked_leaf one) ≡ marked_member (codes "a") (Some 5) (marked_leaf one) (marked_member (codes "c") None (marked_leaf one) no_marked_members)
insert_replaces = refl

put_between : put (codes "b") None (marked_leaf one) two
    ≡ marked_member (codes "a") (Some 1) (marked_leaf one) (marked_member (codes "b") None (marked_leaf one) (marked_member (codes "c") None (marked_leaf one) no_marked_members))
put_between = refl
