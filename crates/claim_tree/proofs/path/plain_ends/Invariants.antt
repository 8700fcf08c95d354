use Rattle.std.proofs.Common.{◌≡◌, ◌++◌, drop}
use Rattle.claim_tree.specs.Steps.{slashes_from}
use Rattle.claim_tree.proofs.path.plain_ends.Given as goal

abbrev pub invariant-loop-i : goal.invariant-loop-i
invariant-loop-i l = l.ends.items ++ slashes_from l.i (drop l.i l.bytes) ≡ slashes_from 1 (drop 1 l.bytes)
