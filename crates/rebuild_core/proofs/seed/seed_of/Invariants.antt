use Rattle.std.proofs.Common.{◌≡◌, map, take}
use Rattle.std.specs.List.{fold}
use Rattle.std.specs.Hash.DefaultHasher.{initial, write}
use Rattle.digest_sites.specs.GivenView.{given_of}
use Rattle.rebuild_core.specs.Reached.{given_digests}
use Rattle.rebuild_core.proofs.seed.seed_of.Given as goal

abbrev pub invariant-loop-item : goal.invariant-loop-item
invariant-loop-item l = l.hasher ≡ fold write (write initial l.signature) (given_digests (map given_of (take l.item-index l.item-items)))
