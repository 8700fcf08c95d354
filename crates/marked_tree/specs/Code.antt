-- For the models: a code for marked trees, by which a proof tells two of them apart.
use Rattle.std.specs.Prelude.{◌≡◌, ℕ, Option, refl}
use Rattle.std.proofs.Common.{ap}
use Rattle.std.specs.Coded.{Coded, coded_ℕ, coded_option}
use base.Stored.{Gv, gnil, gnum, gcons}
use Rattle.claim_tree.specs.Code.{text_code, leaf_to, leaf_inj, gcons_same}
use Rattle.marked_tree.specs.Marked.{Marked, marked_leaf, marked_array, marked_object, MarkedElements, no_marked_elements, marked_element, MarkedMembers, no_marked_members, marked_member}

abbrev mark_code : Coded (Option ℕ)
mark_code = coded_option coded_ℕ

abbrev mutual
  marked_to : Marked → Gv
  marked_to (marked_leaf l) = gcons gnil (leaf_to l)
  marked_to (marked_array es) = gcons (gnum 0) (marked_elements_to es)
  marked_to (marked_object ms) = gcons (gcons gnil gnil) (marked_members_to ms)

  marked_elements_to : MarkedElements → Gv
  marked_elements_to no_marked_elements = gnil
  marked_elements_to (marked_element i t es) =
      gcons (mark_code.code i) (gcons (marked_to t) (marked_elements_to es))

  marked_members_to : MarkedMembers → Gv
  marked_members_to no_marked_members = gnil
  marked_members_to (marked_member k i t ms) =
      gcons (text_code.code k)
      (gcons (mark_code.code i) (gcons (marked_to t) (marked_members_to ms)))

mutual
  pub marked_inj : (x y : Marked) → marked_to x ≡ marked_to y → x ≡ y
  marked_inj (marked_leaf l) (marked_leaf m) e =
      ap marked_leaf (leaf_inj l m (gcons_same _ _ _ _ e).1)
  marked_inj (marked_array es) (marked_array fs) e =
      ap marked_array (marked_elements_inj es fs (gcons_same _ _ _ _ e).1)
  marked_inj (marked_object ms) (marked_object ns) e =
      ap marked_object (marked_members_inj ms ns (gcons_same _ _ _ _ e).1)
  marked_inj x y e = cc

  pub marked_elements_inj : (x y : MarkedElements) → marked_elements_to x ≡ marked_elements_to y
      → x ≡ y
  marked_elements_inj no_marked_elements no_marked_elements e = refl
  marked_elements_inj (marked_element i t es) (marked_element j u fs) e =
      let v = gcons_same _ _ _ _ e in
      let w = gcons_same _ _ _ _ v.1 in
      let a : i ≡ j = mark_code.inj i j v.0 in
      let b : t ≡ u = marked_inj t u w.0 in
      let c : es ≡ fs = marked_elements_inj es fs w.1 in
      cc
  marked_elements_inj x y e = cc

  pub marked_members_inj : (x y : MarkedMembers) → marked_members_to x ≡ marked_members_to y → x ≡ y
  marked_members_inj no_marked_members no_marked_members e = refl
  marked_members_inj (marked_member k i t ms) (marked_member l j u ns) e =
      let v = gcons_same _ _ _ _ e in
      let w = gcons_same _ _ _ _ v.1 in
      let z = gcons_same _ _ _ _ w.1 in
      let d : k ≡ l = text_code.inj k l v.0 in
      let a : i ≡ j = mark_code.inj i j w.0 in
      let b : t ≡ u = marked_inj t u z.0 in
      let c : ms ≡ ns = marked_members_inj ms ns z.1 in
      cc
  marked_members_inj x y e = cc

abbrev pub marked_elements_code : Coded MarkedElements
marked_elements_code = record { code = marked_elements_to; inj = marked_elements_inj }

abbrev pub marked_members_code : Coded MarkedMembers
marked_members_code = record { code = marked_members_to; inj = marked_members_inj }
