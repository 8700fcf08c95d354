-- The disclosures on the way to wanted paths, opened.
use Rattle.std.proofs.Common.{ℕ, List, Bool, length, ap, ◌∙◌}
use Rattle.claim_tree.specs.Tree.{Tree}
use Rattle.digest_sites.specs.Given.{Given}
use Rattle.marked_tree.specs.Choice.{IsUnmixed}
use Rattle.marked_tree.specs.Paths.{chosen}
use Rattle.marked_tree.specs.Marked.{prune, strip}
use Rattle.marked_tree.specs.Ways.{count_below}
use Rattle.marked_tree.proofs.LeastChoice.{least_choice, unmixed_once, chosen_below}
use Rattle.marked_tree.proofs.Remarks.{strip-renumbered}
use Rattle.rebuild_core.specs.Soundness.{IsSound}
use Rattle.rebuild_core.specs.Laws.{IsPresentation, ChoiceShown}
use Rattle.rebuild_core.specs.Readable.{IsReadable}
use Rattle.rebuild_core.specs.Opening.{processed}
use Rattle.rebuild_core.proofs.Presented.{presentation_holds, one_node_holds}
use Rattle.rebuild_core.proofs.Ranked.{ranks_hold}

pub processed_unmixed : (p : Tree) (given : List Given) → IsReadable p given → IsSound p given → IsUnmixed (processed p given)
processed_unmixed p given readable sound = unmixed_once (processed p given) (length given) (one_node_holds p given readable sound)

pub choice_shown_holds : ChoiceShown
choice_shown_holds p given readable sound want order all rising picked pick =
    let m = processed p given in
    let s : ℕ → Bool = chosen m want in
    let once = one_node_holds p given readable sound in
    let closed = (least_choice m want (processed_unmixed p given readable sound)).closed in
    let shown : IsPresentation p given picked s order = presentation_holds p given readable sound s (chosen_below m (length given) once want) closed order all picked pick in
    let ranks = shown.pruned ∙ ranks_hold m s order all rising in
    record {
      sound = shown.sound;
      ranks = ranks;
      shows = ap strip ranks ∙ strip-renumbered (count_below s) (prune m s);
    }
