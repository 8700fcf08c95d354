use Rattle.std.proofs.Common.{◌≡◌, ◌++◌, map, drop}
use Rattle.claim_tree.specs.declared.path.Path.{Path}
use Rattle.marked_tree.proofs.marking.lent_paths.Given as goal
use denote.Ref.{Bor}

abbrev pub invariant-loop-path : goal.invariant-loop-path
invariant-loop-path l = map (λ (path : Bor Path). path.now) l.lent.items ++ drop l.path-index l.path-items ≡ l.path-items
