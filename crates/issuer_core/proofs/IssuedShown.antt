-- What is presented of an issued token.
use Rattle.std.proofs.Common.{sym, subst, ap, ◌∙◌}
use Rattle.marked_tree.specs.Paths.{chosen}
use Rattle.marked_tree.specs.Marked.{Marked, strip, prune}
use Rattle.rebuild_core.specs.Laws.{Enumerates}
use Rattle.rebuild_core.proofs.ChosenShown.{choice_shown_holds}
use Rattle.issuer_core.specs.Laws.{IssuedIsShown}
use Rattle.issuer_core.proofs.IssuedSound.{issued_is_sound_holds}

pub issued_is_shown_holds : IssuedIsShown
issued_is_shown_holds maker o p given good issued want order all rising picked pick =
    let all_there = subst (λ (m : Marked). Enumerates (chosen m want) order) (sym issued.opens) all in
    let shown = choice_shown_holds p given issued.readable (issued_is_sound_holds maker o p given good issued) want order all_there rising picked pick in
    record {
      sound = shown.sound;
      shows = shown.shows ∙ ap (λ m. strip (prune m (chosen m want))) issued.opens;
    }
