-- For private functions: whether two marked trees are one.
use Rattle.std.specs.Prelude.{ℕ, ◌==◌, Bool, true, false, ◌&&◌, Option, Some, None, bytes_eq}
use Rattle.std.specs.Ordering.{int_eq}
use Rattle.claim_tree.specs.Tree.{Leaf, null, flag, whole, text}
use Rattle.marked_tree.specs.Marked.{Marked, marked_leaf, marked_array, marked_object, MarkedElements, no_marked_elements, marked_element, MarkedMembers, no_marked_members, marked_member}

abbrev pub same_flag : Bool → Bool → Bool
same_flag true b = b
same_flag false true = false
same_flag false false = true

abbrev pub same_leaf : Leaf → Leaf → Bool
same_leaf null null = true
same_leaf (flag a) (flag b) = same_flag a b
same_leaf (whole a) (whole b) = int_eq a b
same_leaf (text a) (text b) = bytes_eq a b
same_leaf _ _ = false

abbrev pub same_mark : Option ℕ → Option ℕ → Bool
same_mark None None = true
same_mark (Some i) (Some j) = i == j
same_mark _ _ = false

abbrev mutual
  pub same_marked : Marked → Marked → Bool
  same_marked (marked_leaf a) (marked_leaf b) = same_leaf a b
  same_marked (marked_array es) (marked_array fs) = same_elements es fs
  same_marked (marked_object ms) (marked_object ns) = same_members ms ns
  same_marked _ _ = false

  pub same_elements : MarkedElements → MarkedElements → Bool
  same_elements no_marked_elements no_marked_elements = true
  same_elements (marked_element i t es) (marked_element j u fs) =
      same_mark i j && (same_marked t u && same_elements es fs)
  same_elements _ _ = false

  pub same_members : MarkedMembers → MarkedMembers → Bool
  same_members no_marked_members no_marked_members = true
  same_members (marked_member k i t ms) (marked_member l j u ns) =
      bytes_eq k l && (same_mark i j && (same_marked t u && same_members ms ns))
  same_members _ _ = false
