use Rattle.std.proofs.Common.{◌≡◌, drop}
use Rattle.std.specs.Prelude.{Some, IfSome}
use Rattle.std.specs.List.{position_from}
use Rattle.claim_tree.specs.Path.{tree_at}
use Rattle.claim_tree.specs.View.{tree_of}
use Rattle.issuer_core.specs.Judging.{is_nowhere}
use Rattle.issuer_core.proofs.judging.nowhere_in.Given as goal

abbrev pub invariant-loop-k : goal.invariant-loop-k
invariant-loop-k l =
    IfSome l.earlier (λ e. tree_at (tree_of l.payload) e.0.now ≡ Some (tree_of e.1.now))
    × (position_from (is_nowhere (tree_of l.payload)) l.k (drop l.k l.path-items) ≡ position_from (is_nowhere (tree_of l.payload)) 0 l.hide)
