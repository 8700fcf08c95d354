-- Two marked trees are one where they are the same.
use Rattle.std.proofs.Common.{◌≡◌, ℕ, Bool, true, false, ◌&&◌, ◌==◌, Option, Some, None, refl, sym, ap, subst}
use Rattle.std.specs.Prelude.{bytes_eq}
use Rattle.std.specs.Bool.{Decides}
use Rattle.std.specs.Ordering.{int_eq}
use Rattle.std.proofs.lemmas.Bool.Decides.{Decides-int_eq, Decides-eqb}
use Rattle.std.proofs.lemmas.Bool.{and_parts, and_from}
use Rattle.claim_tree.specs.Tree.{Leaf, null, flag, whole, text}
use Rattle.sd_outside.proofs.Lists.{bytes_refl, bytes_same}
use Rattle.marked_tree.specs.Marked.{Marked, marked_leaf, marked_array, marked_object, MarkedElements, no_marked_elements, marked_element, MarkedMembers, no_marked_members, marked_member}
use Rattle.audit_core.specs.SameMarked.{same_flag, same_leaf, same_mark, same_marked, same_elements, same_members}

told : (b : Bool) (P : Type 0) → Decides b P → b ≡ true → P
told b P d e = d.0 e

is_told : (b : Bool) (P : Type 0) → Decides b P → P → b ≡ true
is_told b P d p = d.1 p

flags : (a b : Bool) → same_flag a b ≡ true → a ≡ b
flags true true e = refl
flags true false e = sym e
flags false true e = e
flags false false e = refl

flag_self : (a : Bool) → same_flag a a ≡ true
flag_self true = refl
flag_self false = refl

leaves : (a b : Leaf) → same_leaf a b ≡ true → a ≡ b
leaves null null e = refl
leaves (flag a) (flag b) e = ap flag (flags a b e)
leaves (whole a) (whole b) e = ap whole (told (int_eq a b) (a ≡ b) (Decides-int_eq a b) e)
leaves (text a) (text b) e = ap text (bytes_same a b e)
leaves null (flag b) e = let w : false ≡ true = e in cc
leaves null (whole b) e = let w : false ≡ true = e in cc
leaves null (text b) e = let w : false ≡ true = e in cc
leaves (flag a) null e = let w : false ≡ true = e in cc
leaves (flag a) (whole b) e = let w : false ≡ true = e in cc
leaves (flag a) (text b) e = let w : false ≡ true = e in cc
leaves (whole a) null e = let w : false ≡ true = e in cc
leaves (whole a) (flag b) e = let w : false ≡ true = e in cc
leaves (whole a) (text b) e = let w : false ≡ true = e in cc
leaves (text a) null e = let w : false ≡ true = e in cc
leaves (text a) (flag b) e = let w : false ≡ true = e in cc
leaves (text a) (whole b) e = let w : false ≡ true = e in cc

leaf_self : (a : Leaf) → same_leaf a a ≡ true
leaf_self null = refl
leaf_self (flag a) = flag_self a
leaf_self (whole a) = is_told (int_eq a a) (a ≡ a) (Decides-int_eq a a) refl
leaf_self (text a) = bytes_refl a a refl

marks : (i j : Option ℕ) → same_mark i j ≡ true → i ≡ j
marks None None e = refl
marks None (Some j) e = let w : false ≡ true = e in cc
marks (Some i) None e = let w : false ≡ true = e in cc
marks (Some i) (Some j) e = ap Some (told (i == j) (i ≡ j) (Decides-eqb i j) e)

mark_self : (i : Option ℕ) → same_mark i i ≡ true
mark_self None = refl
mark_self (Some i) = is_told (i == i) (i ≡ i) (Decides-eqb i i) refl

mutual
  pub is_one : (a b : Marked) → same_marked a b ≡ true → a ≡ b
  is_one (marked_leaf a) (marked_leaf b) e = ap marked_leaf (leaves a b e)
  is_one (marked_array es) (marked_array fs) e = ap marked_array (elements_are es fs e)
  is_one (marked_object ms) (marked_object ns) e = ap marked_object (members_are ms ns e)
  is_one (marked_leaf a) (marked_array fs) e = let w : false ≡ true = e in cc
  is_one (marked_leaf a) (marked_object ns) e = let w : false ≡ true = e in cc
  is_one (marked_array es) (marked_leaf b) e = let w : false ≡ true = e in cc
  is_one (marked_array es) (marked_object ns) e = let w : false ≡ true = e in cc
  is_one (marked_object ms) (marked_leaf b) e = let w : false ≡ true = e in cc
  is_one (marked_object ms) (marked_array fs) e = let w : false ≡ true = e in cc

  elements_are : (es fs : MarkedElements) → same_elements es fs ≡ true → es ≡ fs
  elements_are no_marked_elements no_marked_elements e = refl
  elements_are no_marked_elements (marked_element j u fs) e = let w : false ≡ true = e in cc
  elements_are (marked_element i t es) no_marked_elements e = let w : false ≡ true = e in cc
  elements_are (marked_element i t es) (marked_element j u fs) e =
      let mark = and_parts (same_mark i j) (same_marked t u && same_elements es fs) e in
      let rest = and_parts (same_marked t u) (same_elements es fs) mark.1 in
      let one = is_one t u rest.0 in
      let more = elements_are es fs rest.1 in
      let same = marks i j mark.0 in
      cc

  members_are : (ms ns : MarkedMembers) → same_members ms ns ≡ true → ms ≡ ns
  members_are no_marked_members no_marked_members e = refl
  members_are no_marked_members (marked_member l j u ns) e = let w : false ≡ true = e in cc
  members_are (marked_member k i t ms) no_marked_members e = let w : false ≡ true = e in cc
  members_are (marked_member k i t ms) (marked_member l j u ns) e =
      let name = and_parts (bytes_eq k l) (same_mark i j && (same_marked t u && same_members ms ns)) e in
      let mark = and_parts (same_mark i j) (same_marked t u && same_members ms ns) name.1 in
      let rest = and_parts (same_marked t u) (same_members ms ns) mark.1 in
      let named = bytes_same k l name.0 in
      let same = marks i j mark.0 in
      let one = is_one t u rest.0 in
      let more = members_are ms ns rest.1 in
      cc

mutual
  self : (a : Marked) → same_marked a a ≡ true
  self (marked_leaf a) = leaf_self a
  self (marked_array es) = elements_self es
  self (marked_object ms) = members_self ms

  elements_self : (es : MarkedElements) → same_elements es es ≡ true
  elements_self no_marked_elements = refl
  elements_self (marked_element i t es) = and_from (same_mark i i) _ (mark_self i) (and_from (same_marked t t) _ (self t) (elements_self es))

  members_self : (ms : MarkedMembers) → same_members ms ms ≡ true
  members_self no_marked_members = refl
  members_self (marked_member k i t ms) =
      and_from (bytes_eq k k) _ (bytes_refl k k refl) (and_from (same_mark i i) _ (mark_self i) (and_from (same_marked t t) _ (self t) (members_self ms)))

pub one_is : (a b : Marked) → a ≡ b → same_marked a b ≡ true
one_is a b e = subst (λ c. same_marked a c ≡ true) e (self a)
