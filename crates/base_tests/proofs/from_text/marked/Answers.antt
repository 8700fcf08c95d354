use Rattle.std.proofs.Common.{arith, subst, sym}
use Rattle.std.proofs.lemmas.Map.Made.{distinct_count-le}
use Rattle.claim_tree.specs.View.{tree_of}
use Rattle.marked_tree.specs.Choice.{IsUnmixed}
use Rattle.marked_tree.specs.Paths.{same_path}
use Rattle.marked_tree.proofs.LeastChoice.{unmixed_mark}
use Rattle.base_tests.proofs.from_text.marked.Goals as goal

pub mark-requires-clause-few : goal.mark-requires-clause-few
mark-requires-clause-few c = omega (arith, distinct_count-le same_path c.in_ok-paths.paths, c.in_ok-paths.ensures)

pub returns-clause-unmixed : goal.returns-clause-unmixed
returns-clause-unmixed c = subst IsUnmixed (sym c.in_ok-mark.ensures.marked) (unmixed_mark (tree_of c.in_ok-tree.tree) c.in_ok-paths.paths)
