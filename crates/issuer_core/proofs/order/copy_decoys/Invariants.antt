use Rattle.std.proofs.Common.{◌≡◌, take}
use Rattle.issuer_core.proofs.order.copy_decoys.Given as goal

abbrev pub invariant-loop-entry : goal.invariant-loop-entry
invariant-loop-entry l = l.copies ≡ take l.entry-index l.entry-items
