use Rattle.std.proofs.Common.{ap, arith}
use Rattle.claim_tree.specs.Tree.{depth}
use Rattle.claim_tree.specs.View.{tree_of}
use Rattle.rebuild_core.proofs.NothingHidden.{without_alg_shallow}
use Rattle.rebuild_core.proofs.unhidden.move_out.Goals as goal

pub depth-requires : goal.depth-requires
depth-requires c = omega (arith, c.requires, without_alg_shallow (tree_of c.args.payload), ap depth c.without_alg-tree.ensures)
