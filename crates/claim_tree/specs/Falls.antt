-- For the models and the prover: a tree inside another has a smaller measure.
use Rattle.std.specs.Prelude.{◌≤◌, ◌*◌, List, [], ◌∷◌}
use Rattle.std.proofs.Common.{arith}
use denote.Param.Weighed.{most}
use Rattle.claim_tree.specs.Tree.{Text}
use Rattle.claim_tree.specs.Nodes.{nodes, elements_nodes, members_nodes}
use Rattle.claim_tree.specs.declared.tree.Tree.{Tree}
use Rattle.claim_tree.specs.declared.tree.Tree.TheVariants.{the_data}
use Rattle.claim_tree.specs.declared.tree.TreeList.TheDeep.{deep-Tree}
use Rattle.claim_tree.specs.declared.tree.TreeList.TheShapes.{weighed-TreeMap-members-at-2}
use Rattle.claim_tree.specs.View.{tree_of}
use Rattle.claim_tree.specs.ListViews.{elements_of, members_of}

pub deep-le : (t : Tree) → deep-Tree t ≤ 2 * nodes (tree_of t)
deep-le Tree.Null = omega arith
deep-le (Tree.Flag b) = omega arith
deep-le (Tree.Whole n) = omega arith
deep-le (Tree.Text s) = omega arith
deep-le (Tree.List es) = omega arith
deep-le (Tree.Object ms) = omega arith

pub most-elements : (ts : List Tree)
    → most (λ t. deep-Tree t) ts ≤ 2 * elements_nodes (elements_of ts)
most-elements [] = omega arith
most-elements (t ∷ ts) = omega (arith, deep-le t, most-elements ts)

pub most-members : (ms : List (Text × Tree))
    → most (λ x. (weighed-TreeMap-members-at-2).weight the_data (λ t. deep-Tree t) x) ms
    ≤ 2 * members_nodes (members_of ms)
most-members [] = omega arith
most-members (m ∷ ms) = omega (arith, deep-le m.1, most-members ms)
