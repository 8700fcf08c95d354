use Rattle.std.proofs.Common.{Some, ap, ◌∙◌, sym, subst}
use Rattle.claim_tree.specs.Tree.{MembersOrdered, MembersRanged}
use Rattle.claim_tree.specs.View.{tree_of}
use Rattle.claim_tree.specs.ListViews.{members_of}
use Rattle.claim_tree.proofs.MapPlaces.{named_at, named_gap, remove_at, removed_gap, ordered-removed}
use Rattle.claim_tree.proofs.OtherMembers.{ranged-removed}
use Rattle.claim_tree.proofs.tree.take.Goals as goal

pub returns-in-Ok-clause-tree : goal.returns-in-Ok-clause-tree
returns-in-Ok-clause-tree c =
    let position = rw c.as_slice.ensures.value at c.in-Ok.ensures in
    ap (λ m. Some (tree_of m.1)) c.remove-tree.ensures.value
    ∙ sym (named_at c.args.members.now.items c.args.name.now c.in-Ok.position c.remove-tree.result c.requires.ordered position)

pub returns-in-Ok-clause-others : goal.returns-in-Ok-clause-others
returns-in-Ok-clause-others c =
    let position = rw c.as_slice.ensures.value at c.in-Ok.ensures in
    ap members_of c.remove-tree.ensures.items ∙ remove_at c.args.members.now.items c.args.name.now c.in-Ok.position c.requires.ordered position

pub returns-in-Ok-clause-ordered : goal.returns-in-Ok-clause-ordered
returns-in-Ok-clause-ordered c =
    subst MembersOrdered (sym (returns-in-Ok-clause-others c)) (ordered-removed (members_of c.args.members.now.items) c.args.name.now c.requires.ordered)

pub returns-in-Ok-clause-ranged : goal.returns-in-Ok-clause-ranged
returns-in-Ok-clause-ranged c =
    subst MembersRanged (sym (returns-in-Ok-clause-others c)) (ranged-removed (members_of c.args.members.now.items) c.args.name.now c.requires.ranged)

pub returns-in-Err-clause-tree : goal.returns-in-Err-clause-tree
returns-in-Err-clause-tree c =
    let gap = rw c.as_slice.ensures.value at c.in-Err.ensures in
    sym (named_gap c.args.members.now.items c.args.name.now c.in-Err.field-0 gap)

pub returns-in-Err-clause-others : goal.returns-in-Err-clause-others
returns-in-Err-clause-others c =
    let gap = rw c.as_slice.ensures.value at c.in-Err.ensures in
    removed_gap c.args.members.now.items c.args.name.now c.in-Err.field-0 gap
