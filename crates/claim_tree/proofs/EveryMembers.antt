-- A test that every member passes, and what is so of each member.
use Rattle.std.proofs.Common.{◌≡◌, Bool, true, refl}
use Rattle.std.proofs.lemmas.Bool.{and_parts, and_from}
use Rattle.claim_tree.specs.Tree.{Text, Tree, leaf, array, object, Elements, no_elements, element, Members, no_members, member}
use Rattle.claim_tree.specs.EveryMember.{every_member, elements_pass, members_pass}
use Rattle.claim_tree.specs.Everywhere.{EachMember}
use Rattle.claim_tree.proofs.Everywheres.{EachElementIn, EachMemberIn}

module _ (test : Text → Tree → Bool) (Is : Text → Tree → Type 0) where
  module _ (says : (name : Text) (t : Tree) → test name t ≡ true → Is name t) where
    mutual
      pub each_is : (t : Tree) → every_member test t ≡ true → EachMember Is t
      each_is (leaf l) e = tt
      each_is (array es) e = (tt, elements_are es e)
      each_is (object ms) e = members_are ms e

      elements_are : (es : Elements) → elements_pass test es ≡ true → EachElementIn Is es
      elements_are no_elements e = tt
      elements_are (element t es) e = let parts = and_parts _ _ e in (each_is t parts.0, elements_are es parts.1)

      members_are : (ms : Members) → members_pass test ms ≡ true → EachMemberIn Is ms
      members_are no_members e = tt
      members_are (member name t ms) e =
          let parts = and_parts _ _ e in
          let rest = and_parts _ _ parts.1 in
          (says name t parts.0, each_is t rest.0, members_are ms rest.1)

  module _ (passes : (name : Text) (t : Tree) → Is name t → test name t ≡ true) where
    mutual
      pub is_each : (t : Tree) → EachMember Is t → every_member test t ≡ true
      is_each (leaf l) h = refl
      is_each (array es) h = elements_each es h.1
      is_each (object ms) h = members_each ms h

      elements_each : (es : Elements) → EachElementIn Is es → elements_pass test es ≡ true
      elements_each no_elements h = refl
      elements_each (element t es) h = and_from _ _ (is_each t h.0) (elements_each es h.1)

      members_each : (ms : Members) → EachMemberIn Is ms → members_pass test ms ≡ true
      members_each no_members h = refl
      members_each (member name t ms) h = and_from _ _ (passes name t h.0) (and_from _ _ (is_each t h.1) (members_each ms h.2))
