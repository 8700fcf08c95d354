use Rattle.std.proofs.Common.{sym, ◌∙◌}
use Rattle.claim_tree.specs.View.{tree_of}
use Rattle.marked_tree.specs.View.{marked_of}
use Rattle.audit_core.proofs.Sames.{is_one, one_is}
use Rattle.audit_core.proofs.Soundness.{refused_unsound}
use Rattle.audit_core.proofs.claims.shows.Goals as goal

pub returns-in-Ok : goal.returns-in-Ok
returns-in-Ok c =
    let sound = rw c.requires.bare at c.in-Ok.ensures.sound in
    let shown = rw c.requires.bare at c.in-Ok.ensures.processed in
    record {
      shows = (
        (λ e. (sound, sym shown ∙ is_one (marked_of c.in-Ok.shown) (marked_of c.args.claims.now) (sym c.is_same.ensures ∙ e))),
        (λ s. c.is_same.ensures ∙ one_is (marked_of c.in-Ok.shown) (marked_of c.args.claims.now) (shown ∙ s.1)),
      );
      counted = λ s. rw c.requires.bare at c.in-Ok.ensures.counted;
      risen = rw c.requires.bare at c.process_seeded.ensures.risen;
    }

pub returns-in_default : goal.returns-in_default
returns-in_default c =
    let unsound = refused_unsound (tree_of c.args.payload) c.args.given c.in-Err.error c.in_default.not-Memory (rw c.requires.bare at c.in-Err.ensures.refused) in
    record { shows = ((λ e. cc), (λ s. absurd (unsound s.0))); counted = λ s. absurd (unsound s); risen = rw c.requires.bare at c.process_seeded.ensures.risen }
