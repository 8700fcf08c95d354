use Rattle.std.proofs.Common.{refl}
use Rattle.verifier_core.proofs.Contents.{content_seen, opened, opening, judged_ok}
use Rattle.verifier_core.proofs.content.Content.open_payload.Goals as goal

pub returns-clause-checked : goal.returns-clause-checked
returns-clause-checked c token rules is =
    rw c.judged.ensures (judged_ok c.process_payload.result _ _ _ (λ payload sound same. (_, opened token rules _ (content_seen token rules _ _ c.self.view_is is) _ sound refl, same)) c.process_payload.ensures.sound c.process_payload.ensures.processed)

pub returns-clause-opened : goal.returns-clause-opened
returns-clause-opened c token rules is =
    rw c.judged.ensures (opening token rules _ (content_seen token rules _ _ c.self.view_is is) c.process_payload.result _ _ c.process_payload.ensures.refused c.process_payload.ensures.counted c.process_payload.ensures.risen)
