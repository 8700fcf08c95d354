-- For private functions: what an order asks for, once its claims are marked.
use Rattle.std.specs.Prelude.{◌≡◌, map, length}
use Rattle.marked_tree.specs.View.{marked_of}
use Rattle.issuer_core.specs.Decoys.{decoys_of}
use Rattle.issuer_core.specs.Digests.{hidden_of, marked_claims}
use Rattle.issuer_core.specs.Laid.{sorted}
use Rattle.issuer_core.specs.Order.{Order}
use Rattle.audit_core.specs.Audited.{decoys_wanted}
use Rattle.audit_core.specs.AuditSteps.{standing_text}
use Rattle.audit_core.specs.declared.asked.Asked.{Asked}

-- the order asks for this
pub record IsAskedFor (o : Order) (asked : Asked) : Type 0 where
  pub claims : marked_of asked.claims ≡ marked_claims o
  pub hidden : asked.hidden ≡ hidden_of o
  pub hash : asked.hash ≡ o.hash
  pub decoys : asked.decoys ≡ length (decoys_of o)
  pub standings : asked.standings.items ≡ sorted (map standing_text (decoys_wanted o))
