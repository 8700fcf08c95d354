use Rattle.std.proofs.Common.{Err, ap, sym, ◌∙◌, refl}
use Rattle.claim_tree.specs.View.{tree_of}
use Rattle.verifier_core.specs.Check.{no_body, no_hash}
use Rattle.verifier_core.proofs.payload_reading.read_payload.Goals as goal

pub returns-in-Err-Unreadable-clause-refused : goal.returns-in-Err-Unreadable-clause-refused
returns-in-Err-Unreadable-clause-refused c = rw c.fails.ensures (no_body (c.in-Err-Unreadable.ensures.unreadable (ap Err c.in-Err-Unreadable.field-0-is)) refl)

pub returns-in-None-clause-refused : goal.returns-in-None-clause-refused
returns-in-None-clause-refused c = rw c.fails-in-None.ensures (no_hash (tree_of c.in-Ok.body) c.in-Ok.ensures.ok (sym c.payload_hash.ensures ∙ c.in-None.is) refl)
