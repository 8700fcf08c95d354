use Rattle.std.proofs.Common.{Some, ap, ◌∙◌, sym, subst}
use Rattle.claim_tree.specs.Tree.{MembersOrdered}
use Rattle.marked_tree.specs.Marked.{strip_members}
use Rattle.marked_tree.specs.Steps.{marked_member_named}
use Rattle.marked_tree.specs.View.{marked_of, marked_members_of}
use Rattle.marked_tree.proofs.MarkedViews.{Entry}
use Rattle.marked_tree.proofs.Names.{ascend}
use Rattle.marked_tree.proofs.StepFacts.{named_at, named_gap}
use Rattle.marked_tree.proofs.marked.MarkedMap.get.Goals as goal

pub returns-in-Ok : goal.returns-in-Ok
returns-in-Ok c =
    let ms = c.members-members.result.now in
    let ordered = subst (λ es. MembersOrdered (strip_members es)) (sym c.members-members.ensures.value) c.members-members.ensures.ordered in
    ap (λ (m : Entry). Some (m.1, marked_of m.2)) c.index-members-position.is
    ∙ sym (named_at ms c.args.name.now c.in-Ok.position c.index-members-position.result (ascend (marked_members_of ms) ordered) c.in-Ok.ensures.place)
    ∙ ap (λ es. marked_member_named es c.args.name.now) c.members-members.ensures.value

pub returns-in-Err : goal.returns-in-Err
returns-in-Err c =
    sym (named_gap c.members-members.result.now c.args.name.now c.in-Err.field-0 c.in-Err.ensures.place)
    ∙ ap (λ es. marked_member_named es c.args.name.now) c.members-members.ensures.value
