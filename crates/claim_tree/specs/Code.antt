-- For the models: a code for trees, by which a proof tells two of them apart.
use Rattle.std.specs.Prelude.{◌≡◌, refl}
use Rattle.std.proofs.Common.{ap, ap₂}
use Rattle.std.specs.Coded.{Coded, coded_ℕ, coded_ℤ, coded_bool, coded_list}
use base.Stored.{Gv, gnil, gnum, gcons}
use Rattle.claim_tree.specs.Tree.{Text, Leaf, null, flag, whole, text, Tree, leaf, array, object, Elements, no_elements, element, Members, no_members, member}

abbrev pub text_code : Coded Text
text_code = coded_list coded_ℕ

abbrev pub leaf_to : Leaf → Gv
leaf_to null = gnil
leaf_to (flag b) = gcons gnil (coded_bool.code b)
leaf_to (whole z) = gcons (gnum 0) (coded_ℤ.code z)
leaf_to (text s) = gcons (gcons gnil gnil) (text_code.code s)

abbrev mutual
  tree_to : Tree → Gv
  tree_to (leaf l) = gcons gnil (leaf_to l)
  tree_to (array es) = gcons (gnum 0) (elements_to es)
  tree_to (object ms) = gcons (gcons gnil gnil) (members_to ms)

  elements_to : Elements → Gv
  elements_to no_elements = gnil
  elements_to (element t es) = gcons (tree_to t) (elements_to es)

  members_to : Members → Gv
  members_to no_members = gnil
  members_to (member k t ms) = gcons (text_code.code k) (gcons (tree_to t) (members_to ms))

pub gcons_same : (a b c d : Gv) → gcons a b ≡ gcons c d → (a ≡ c) × (b ≡ d)
gcons_same a b c d e = (cc, cc)

pub leaf_inj : (x y : Leaf) → leaf_to x ≡ leaf_to y → x ≡ y
leaf_inj null null e = refl
leaf_inj (flag b) (flag c) e = ap flag (coded_bool.inj b c ((gcons_same _ _ _ _ e).1))
leaf_inj (whole b) (whole c) e = ap whole (coded_ℤ.inj b c ((gcons_same _ _ _ _ e).1))
leaf_inj (text b) (text c) e = ap text (text_code.inj b c ((gcons_same _ _ _ _ e).1))
leaf_inj x y e = cc

mutual
  pub tree_inj : (x y : Tree) → tree_to x ≡ tree_to y → x ≡ y
  tree_inj (leaf l) (leaf m) e = ap leaf (leaf_inj l m (gcons_same _ _ _ _ e).1)
  tree_inj (array es) (array fs) e = ap array (elements_inj es fs (gcons_same _ _ _ _ e).1)
  tree_inj (object ms) (object ns) e = ap object (members_inj ms ns (gcons_same _ _ _ _ e).1)
  tree_inj x y e = cc

  pub elements_inj : (x y : Elements) → elements_to x ≡ elements_to y → x ≡ y
  elements_inj no_elements no_elements e = refl
  elements_inj (element t es) (element u fs) e =
      ap₂ element (tree_inj t u (gcons_same _ _ _ _ e).0)
      (elements_inj es fs (gcons_same _ _ _ _ e).1)
  elements_inj x y e = cc

  pub members_inj : (x y : Members) → members_to x ≡ members_to y → x ≡ y
  members_inj no_members no_members e = refl
  members_inj (member k t ms) (member l u ns) e =
      let w = gcons_same _ _ _ _ (gcons_same _ _ _ _ e).1 in
      let a : k ≡ l = text_code.inj k l (gcons_same _ _ _ _ e).0 in
      let b : t ≡ u = tree_inj t u w.0 in
      let c : ms ≡ ns = members_inj ms ns w.1 in
      cc
  members_inj x y e = cc

abbrev pub elements_code : Coded Elements
elements_code = record { code = elements_to; inj = elements_inj }

abbrev pub members_code : Coded Members
members_code = record { code = members_to; inj = members_inj }
