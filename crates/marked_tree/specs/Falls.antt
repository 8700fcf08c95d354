-- For the models and the prover: a marked tree inside another has a smaller measure.
use Rattle.std.specs.Prelude.{ℕ, ◌≤◌, ◌*◌, List, [], ◌∷◌, Option}
use Rattle.std.proofs.Common.{arith}
use denote.Param.Weighed.{most}
use Rattle.claim_tree.specs.Tree.{Text}
use Rattle.claim_tree.specs.Nodes.{nodes, elements_nodes, members_nodes}
use Rattle.marked_tree.specs.Marked.{strip, strip_elements, strip_members}
use Rattle.marked_tree.specs.declared.marked.Marked.{Marked}
use Rattle.marked_tree.specs.declared.marked.Marked.TheVariants.{the_data}
use Rattle.marked_tree.specs.declared.marked.MarkedList.TheDeep.{deep-Marked}
use Rattle.marked_tree.specs.declared.marked.MarkedList.TheShapes.{weighed-MarkedList-elements-at-2, weighed-MarkedMap-members-at-3}
use Rattle.marked_tree.specs.View.{marked_of, marked_elements_of, marked_members_of}

pub deep-le : (t : Marked) → deep-Marked t ≤ 2 * nodes (strip (marked_of t))
deep-le Marked.Null = omega arith
deep-le (Marked.Flag b) = omega arith
deep-le (Marked.Whole n) = omega arith
deep-le (Marked.Text s) = omega arith
deep-le (Marked.List es) = omega arith
deep-le (Marked.Object ms) = omega arith

pub most-elements : (es : List (Option ℕ × Marked))
    → most (λ x. (weighed-MarkedList-elements-at-2).weight the_data (λ t. deep-Marked t) x) es
    ≤ 2 * elements_nodes (strip_elements (marked_elements_of es))
most-elements [] = omega arith
most-elements (e ∷ es) = omega (arith, deep-le e.1, most-elements es)

pub most-members : (ms : List (Text × Option ℕ × Marked))
    → most (λ x. (weighed-MarkedMap-members-at-3).weight the_data (λ t. deep-Marked t) x) ms
    ≤ 2 * members_nodes (strip_members (marked_members_of ms))
most-members [] = omega arith
most-members (m ∷ ms) = omega (arith, deep-le m.2, most-members ms)
