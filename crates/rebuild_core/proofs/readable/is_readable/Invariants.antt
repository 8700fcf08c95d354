use Rattle.std.proofs.Common.{ℕ, ◌<◌}
use Rattle.claim_tree.specs.Tree.{IsOrdered}
use Rattle.sd_outside.specs.Lists.{StandsAt}
use Rattle.digest_sites.specs.Given.{Given}
use Rattle.rebuild_core.proofs.readable.is_readable.Given as goal

abbrev pub invariant-loop-item : goal.invariant-loop-item
invariant-loop-item l = (i : ℕ) (x : Given) → i < l.item-index → StandsAt l.given i x → IsOrdered x.value
