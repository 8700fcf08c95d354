use Rattle.std.proofs.Common.{sym, ◌∙◌}
use Rattle.claim_tree.specs.Tree.{MembersOrdered}
use Rattle.marked_tree.specs.Marked.{strip_members}
use Rattle.marked_tree.specs.Numbers.{has}
use Rattle.marked_tree.specs.View.{marked_members_of}
use Rattle.marked_tree.proofs.MarkedWalks.{stays_turn, stays_member_turn}
use Rattle.marked_tree.proofs.prunes.+prune.Goals as goal

pub prune_list-loop-mark-preserved : goal.prune_list-loop-mark-preserved
prune_list-loop-mark-preserved t c =
    let more = stays_turn (has c.args.kept.now) c.elements-mark-items.result.now c.loop-mark.mark-index c.loop-mark-item.result c.loop-mark-test.true c.loop-mark-item.is (sym c.stays.ensures ∙ c.if-not-stays.false) in
    rw (c.in_ok-push.ensures.ok, c.loop-mark.invariant, c.in_ok-prune_tree.ensures) (sym more)

pub prune_map-loop-name-preserved : goal.prune_map-loop-name-preserved
prune_map-loop-name-preserved t c =
    let ms = c.members-name-items.result.now in
    let ordered : MembersOrdered (strip_members (marked_members_of ms)) = rw c.members-name-items.ensures.value c.members-name-items.ensures.ordered in
    let more = stays_member_turn (has c.args.kept.now) ms c.loop-name.name-index c.loop-name-item.result c.loop-name-test.true c.loop-name-item.is ordered (sym c.stays.ensures ∙ c.if-not-stays.false) in
    rw (c.in_ok-put.ensures.ok, c.loop-name.invariant, c.in_ok-prune_tree.ensures, c.in_ok-name.ensures, c.as_str.ensures) (sym more)
