-- Not needed to believe the program's promises: how many nodes a tree has.
use Rattle.std.specs.Prelude.{ℕ, suc, ◌+◌, ◌*◌}
use Rattle.claim_tree.specs.Tree.{Elements, Members, Tree, array, element, leaf, member, no_elements, no_members, object}

-- how many nodes there are
abbrev mutual
  pub nodes : Tree → ℕ
  nodes (leaf l) = 1
  nodes (array es) = suc (elements_nodes es)
  nodes (object ms) = suc (members_nodes ms)

  pub elements_nodes : Elements → ℕ
  elements_nodes no_elements = 0
  elements_nodes (element t es) = nodes t + elements_nodes es

  pub members_nodes : Members → ℕ
  members_nodes no_members = 0
  members_nodes (member name t ms) = nodes t + members_nodes ms

-- what the prover measures a list and an object by: more than each tree inside
abbrev pub elements_size : Elements → ℕ
elements_size es = suc (2 * elements_nodes es)

abbrev pub members_size : Members → ℕ
members_size ms = suc (2 * members_nodes ms)
