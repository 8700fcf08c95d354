use Rattle.std.proofs.Common.{◌≡◌, drop}
use Rattle.claim_tree.specs.EveryMember.{elements_pass, members_pass}
use Rattle.claim_tree.specs.ListViews.{elements_of, members_of}
use Rattle.claim_tree.proofs.member_test.+tested.Given as goal

abbrev pub invariant-elements_pass-loop-tree : goal.invariant-elements_pass-loop-tree
invariant-elements_pass-loop-tree t l = elements_pass t.T.MemberTest.test (elements_of (drop l.tree-index l.tree-items)) ≡ elements_pass t.T.MemberTest.test (elements_of l.tree-items)

abbrev pub invariant-members_pass-loop-name : goal.invariant-members_pass-loop-name
invariant-members_pass-loop-name t l = members_pass t.T.MemberTest.test (members_of (drop l.name-index l.name-items)) ≡ members_pass t.T.MemberTest.test (members_of l.name-items)
