use Rattle.marked_tree.specs.View.{marked_of}
use Rattle.verifier_core.proofs.Contents.{content_seen, opened, opening, judged_ok}
use Rattle.verifier_core.proofs.content.Content.open.Goals as goal

pub returns-clause-checked : goal.returns-clause-checked
returns-clause-checked c token rules is =
    rw c.judged.ensures (judged_ok c.process_seeded.result _ _ _ (λ marked. opened token rules _ (content_seen token rules _ _ c.self.view_is is) (marked_of marked)) c.process_seeded.ensures.sound c.process_seeded.ensures.processed)

pub returns-clause-opened : goal.returns-clause-opened
returns-clause-opened c token rules is =
    rw c.judged.ensures (opening token rules _ (content_seen token rules _ _ c.self.view_is is) c.process_seeded.result _ _ c.process_seeded.ensures.refused c.process_seeded.ensures.counted c.process_seeded.ensures.risen)
