-- Not needed to believe the program's promises: a test of every member of a tree.
use Rattle.std.specs.Prelude.{Bool, true, ◌&&◌}
use Rattle.claim_tree.specs.Tree.{Text, Tree, leaf, array, object, Elements, no_elements, element, Members, no_members, member}

-- each member of each object passes, however deep it stands
abbrev mutual
  pub every_member : (Text → Tree → Bool) → Tree → Bool
  every_member test (leaf l) = true
  every_member test (array es) = elements_pass test es
  every_member test (object ms) = members_pass test ms

  pub elements_pass : (Text → Tree → Bool) → Elements → Bool
  elements_pass test no_elements = true
  elements_pass test (element t es) = every_member test t && elements_pass test es

  pub members_pass : (Text → Tree → Bool) → Members → Bool
  members_pass test no_members = true
  members_pass test (member name t ms) =
      test name t && (every_member test t && members_pass test ms)
