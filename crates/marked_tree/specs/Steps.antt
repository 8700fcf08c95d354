-- Not needed to believe the program's promises: one step into a marked tree.
use Rattle.std.specs.Prelude.{ℕ, suc, ◌<◌, ◌^◌, Option, Some, None, bytes_eq, decimal, if◌then◌else◌}
use Rattle.claim_tree.specs.Tree.{Text}
use Rattle.marked_tree.specs.Marked.{Marked, marked_leaf, marked_array, marked_object, MarkedElements, no_marked_elements, marked_element, MarkedMembers, no_marked_members, marked_member}
use Rattle.marked_tree.specs.MarkedCalls.{marked_elements_len}

-- the mark and the tree of the element whose position, counted from the given
-- one, has the step as its decimal digits
abbrev pub marked_element_on : MarkedElements → ℕ → Text → Option (Option ℕ × Marked)
marked_element_on no_marked_elements n step = None
marked_element_on (marked_element i t es) n step =
    if bytes_eq (decimal n) step then Some (i, t) else marked_element_on es (suc n) step

-- the mark and the tree under a name
abbrev pub marked_member_named : MarkedMembers → Text → Option (Option ℕ × Marked)
marked_member_named no_marked_members name = None
marked_member_named (marked_member other i t ms) name =
    if bytes_eq other name then Some (i, t) else marked_member_named ms name

-- the mark and the tree one step inside
abbrev pub marked_stepped : Marked → Text → Option (Option ℕ × Marked)
marked_stepped (marked_leaf l) step = None
marked_stepped (marked_array es) step = marked_element_on es 0 step
marked_stepped (marked_object ms) step = marked_member_named ms step

-- for private functions: a list at the root is no longer than a machine holds
abbrev pub IsShortList : Marked → Type 0
IsShortList (marked_array es) = marked_elements_len es < 2 ^ 64
IsShortList _ = Unit {0}
