-- Leaving out and renumbering: the depth, and that renumbering changes marks alone.
use Rattle.std.proofs.Common.{◌≡◌, ℕ, ◌≤◌, max, List, Option, Some, None, refl, ap, ap₂, arith}
use Rattle.claim_tree.specs.Tree.{element, member, array, object, depth, elements_depth, members_depth}
use Rattle.marked_tree.specs.Marked.{Marked, marked_leaf, marked_array, marked_object, MarkedElements, no_marked_elements, marked_element, MarkedMembers, no_marked_members, marked_member, strip, strip_elements, strip_members, remark, remark_elements, remark_members, new_mark, keep_element, keep_member}

element_shallow : (o : Option (Option ℕ)) (t : Marked) (es : MarkedElements) → elements_depth (strip_elements (keep_element o t es)) ≤ max (depth (strip t)) (elements_depth (strip_elements es))
element_shallow None t es = omega arith
element_shallow (Some i) t es = omega arith

member_shallow : (name : List ℕ) (o : Option (Option ℕ)) (t : Marked) (ms : MarkedMembers) → members_depth (strip_members (keep_member name o t ms)) ≤ max (depth (strip t)) (members_depth (strip_members ms))
member_shallow name None t ms = omega arith
member_shallow name (Some i) t ms = omega arith

mutual
  pub depth-remark : (f : ℕ → Option ℕ) (m : Marked) → depth (strip (remark f m)) ≤ depth (strip m)
  depth-remark f (marked_leaf l) = omega arith
  depth-remark f (marked_array es) = omega (arith, depth_elements f es)
  depth-remark f (marked_object ms) = omega (arith, depth_members f ms)

  depth_elements : (f : ℕ → Option ℕ) (es : MarkedElements) → elements_depth (strip_elements (remark_elements f es)) ≤ elements_depth (strip_elements es)
  depth_elements f no_marked_elements = omega arith
  depth_elements f (marked_element i t es) = omega (arith, element_shallow (new_mark f i) (remark f t) (remark_elements f es), depth-remark f t, depth_elements f es)

  depth_members : (f : ℕ → Option ℕ) (ms : MarkedMembers) → members_depth (strip_members (remark_members f ms)) ≤ members_depth (strip_members ms)
  depth_members f no_marked_members = omega arith
  depth_members f (marked_member name i t ms) = omega (arith, member_shallow name (new_mark f i) (remark f t) (remark_members f ms), depth-remark f t, depth_members f ms)

mutual
  pub strip-renumbered : (f : ℕ → ℕ) (m : Marked) → strip (remark (λ i. Some (f i)) m) ≡ strip m
  strip-renumbered f (marked_leaf l) = refl
  strip-renumbered f (marked_array es) = ap array (strip_renumbered_elements f es)
  strip-renumbered f (marked_object ms) = ap object (strip_renumbered_members f ms)

  strip_renumbered_elements : (f : ℕ → ℕ) (es : MarkedElements) → strip_elements (remark_elements (λ i. Some (f i)) es) ≡ strip_elements es
  strip_renumbered_elements f no_marked_elements = refl
  strip_renumbered_elements f (marked_element None t es) = ap₂ element (strip-renumbered f t) (strip_renumbered_elements f es)
  strip_renumbered_elements f (marked_element (Some i) t es) = ap₂ element (strip-renumbered f t) (strip_renumbered_elements f es)

  strip_renumbered_members : (f : ℕ → ℕ) (ms : MarkedMembers) → strip_members (remark_members (λ i. Some (f i)) ms) ≡ strip_members ms
  strip_renumbered_members f no_marked_members = refl
  strip_renumbered_members f (marked_member k None t ms) = ap₂ (member k) (strip-renumbered f t) (strip_renumbered_members f ms)
  strip_renumbered_members f (marked_member k (Some i) t ms) = ap₂ (member k) (strip-renumbered f t) (strip_renumbered_members f ms)
