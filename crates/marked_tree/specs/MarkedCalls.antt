-- Not needed to believe the program's promises: what calls on marked trees answer.
use Rattle.std.specs.Prelude.{ℕ, zero, suc, List, [], ◌∷◌, Option, Some, None}
use Rattle.std.specs.Ordering.{match_ordering, nat_cmp}
use Rattle.std.specs.Cmp.Lexicographic.{slice_cmp}
use Rattle.claim_tree.specs.Tree.{Text}
use Rattle.marked_tree.specs.Marked.{Marked, MarkedElements, MarkedMembers, marked_element, marked_member, no_marked_elements, no_marked_members, put}

abbrev pub marked_elements_len : MarkedElements → ℕ
marked_elements_len no_marked_elements = 0
marked_elements_len (marked_element i t es) = suc (marked_elements_len es)

-- one element more, at the end
abbrev pub marked_pushed : MarkedElements → Option ℕ → Marked → MarkedElements
marked_pushed no_marked_elements i t = marked_element i t no_marked_elements
marked_pushed (marked_element j u es) i t = marked_element j u (marked_pushed es i t)

-- the elements of one array, then those of another
abbrev pub joined : MarkedElements → MarkedElements → MarkedElements
joined no_marked_elements fs = fs
joined (marked_element i t es) fs = marked_element i t (joined es fs)

abbrev pub marked_element_at : MarkedElements → ℕ → Option (Option ℕ × Marked)
marked_element_at no_marked_elements n = None
marked_element_at (marked_element i t es) zero = Some (i, t)
marked_element_at (marked_element i t es) (suc n) = marked_element_at es n

abbrev pub marked_names : MarkedMembers → List Text
marked_names no_marked_members = []
marked_names (marked_member name i t ms) = name ∷ marked_names ms

abbrev pub marked_members_len : MarkedMembers → ℕ
marked_members_len no_marked_members = 0
marked_members_len (marked_member name i t ms) = suc (marked_members_len ms)

abbrev pub marked_member_at : MarkedMembers → ℕ → Option (Text × Option ℕ × Marked)
marked_member_at no_marked_members n = None
marked_member_at (marked_member name i t ms) zero = Some (name, i, t)
marked_member_at (marked_member name i t ms) (suc n) = marked_member_at ms n

-- the members of one object, then those of another
abbrev pub members_joined : MarkedMembers → MarkedMembers → MarkedMembers
members_joined no_marked_members ns = ns
members_joined (marked_member name i t ms) ns = marked_member name i t (members_joined ms ns)

-- the members, with this mark and tree under the name
abbrev pub marked_inserted : MarkedMembers → Text → Option ℕ → Marked → MarkedMembers
marked_inserted no_marked_members name i t = marked_member name i t no_marked_members
marked_inserted (marked_member other j u ms) name i t =
    match_ordering (slice_cmp nat_cmp other name)
    (marked_member other j u (marked_inserted ms name i t))
    (marked_member name i t ms)
    (marked_member name i t (marked_member other j u ms))

-- the members, with each of the others put there in turn
abbrev pub put_all : MarkedMembers → MarkedMembers → MarkedMembers
put_all no_marked_members ms = ms
put_all (marked_member name i t added) ms = put_all added (put name i t ms)
