-- Trees whose members and elements carry the number of the disclosure from
-- which they came, or none.
use Rattle.std.specs.Prelude.{ℕ, Bool, if◌then◌else◌, Option, Some, None, option_map}
use Rattle.std.specs.Ordering.{match_ordering, nat_cmp}
use Rattle.std.specs.Cmp.Lexicographic.{slice_cmp}
use Rattle.claim_tree.specs.Tree.{Text, Leaf, Tree, leaf, array, object, Elements, no_elements, element, Members, no_members, member}

mutual
  pub data Marked : Type 0 where
    marked_leaf : Leaf → Marked
    marked_array : MarkedElements → Marked
    marked_object : MarkedMembers → Marked

  pub data MarkedElements : Type 0 where
    no_marked_elements : MarkedElements
    marked_element : Option ℕ → Marked → MarkedElements → MarkedElements

  pub data MarkedMembers : Type 0 where
    no_marked_members : MarkedMembers
    marked_member : Text → Option ℕ → Marked → MarkedMembers → MarkedMembers

-- the tree with no marks
abbrev mutual
  pub strip : Marked → Tree
  strip (marked_leaf l) = leaf l
  strip (marked_array es) = array (strip_elements es)
  strip (marked_object ms) = object (strip_members ms)

  pub strip_elements : MarkedElements → Elements
  strip_elements no_marked_elements = no_elements
  strip_elements (marked_element i t es) = element (strip t) (strip_elements es)

  pub strip_members : MarkedMembers → Members
  strip_members no_marked_members = no_members
  strip_members (marked_member name i t ms) = member name (strip t) (strip_members ms)

-- ---- arrays and objects

-- the members, ascending by name, with one more unless its name is there
abbrev pub put : Text → Option ℕ → Marked → MarkedMembers → MarkedMembers
put name i t no_marked_members = marked_member name i t no_marked_members
put name i t (marked_member other j u ms) =
    match_ordering (slice_cmp nat_cmp name other)
    (marked_member name i t (marked_member other j u ms))
    (marked_member other j u ms)
    (marked_member other j u (put name i t ms))

-- ---- marks left out or renumbered

-- what becomes of a mark: left out, none, or a number
abbrev pub new_mark : (ℕ → Option ℕ) → Option ℕ → Option (Option ℕ)
new_mark f None = Some None
new_mark f (Some i) = option_map Some (f i)

abbrev pub keep_element : Option (Option ℕ) → Marked → MarkedElements → MarkedElements
keep_element None t es = es
keep_element (Some i) t es = marked_element i t es

abbrev pub keep_member : Text → Option (Option ℕ) → Marked → MarkedMembers → MarkedMembers
keep_member name None t ms = ms
keep_member name (Some i) t ms = marked_member name i t ms

-- each mark i becomes f i, and where that is none the member or element is left
-- out, with all below it
abbrev mutual
  pub remark : (ℕ → Option ℕ) → Marked → Marked
  remark f (marked_leaf l) = marked_leaf l
  remark f (marked_array es) = marked_array (remark_elements f es)
  remark f (marked_object ms) = marked_object (remark_members f ms)

  pub remark_elements : (ℕ → Option ℕ) → MarkedElements → MarkedElements
  remark_elements f no_marked_elements = no_marked_elements
  remark_elements f (marked_element i t es) =
      keep_element (new_mark f i) (remark f t) (remark_elements f es)

  pub remark_members : (ℕ → Option ℕ) → MarkedMembers → MarkedMembers
  remark_members f no_marked_members = no_marked_members
  remark_members f (marked_member name i t ms) =
      keep_member name (new_mark f i) (remark f t) (remark_members f ms)

abbrev pub kept : (ℕ → Bool) → ℕ → Option ℕ
kept s i = if s i then Some i else None

-- without each member and element whose mark is not in s, and all below it
abbrev pub prune : Marked → (ℕ → Bool) → Marked
prune m s = remark (kept s) m
