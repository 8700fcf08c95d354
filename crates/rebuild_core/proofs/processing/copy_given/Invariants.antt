use Rattle.std.proofs.Common.{◌≡◌, map, take}
use Rattle.digest_sites.specs.GivenView.{given_of}
use Rattle.rebuild_core.proofs.processing.copy_given.Given as goal

abbrev pub invariant-loop-item : goal.invariant-loop-item
invariant-loop-item l = l.copies ≡ map given_of (take l.item-index l.item-items)
