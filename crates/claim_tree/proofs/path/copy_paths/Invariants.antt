use Rattle.std.proofs.Common.{◌≡◌, take}
use Rattle.claim_tree.proofs.path.copy_paths.Given as goal

abbrev pub invariant-loop-path : goal.invariant-loop-path
invariant-loop-path l = l.copies ≡ take l.path-index l.path-items
