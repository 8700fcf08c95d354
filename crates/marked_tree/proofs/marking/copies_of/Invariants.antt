use Rattle.std.proofs.Common.{◌≡◌, map, take}
use Rattle.claim_tree.specs.declared.path.Path.{Path}
use Rattle.marked_tree.proofs.marking.copies_of.Given as goal
use denote.Ref.{Bor}

abbrev pub invariant-loop-path : goal.invariant-loop-path
invariant-loop-path l = l.copies ≡ map (λ (path : Bor Path). path.now) (take l.path-index l.lent)
