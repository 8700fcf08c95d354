use Rattle.std.proofs.Common.{ap, ◌∙◌, sym, subst}
use Rattle.std.specs.List.{insert}
use Rattle.claim_tree.specs.Tree.{MembersOrdered, MembersRanged}
use Rattle.claim_tree.specs.View.{tree_of}
use Rattle.claim_tree.specs.ListViews.{members_of}
use Rattle.claim_tree.proofs.Datas.{MembersRanged-inserted}
use Rattle.claim_tree.proofs.MapPlaces.{set_at, insert_at, ordered-inserted}
use Rattle.claim_tree.proofs.tree.put.Goals as goal

pub returns-in-Ok-clause-ok : goal.returns-in-Ok-clause-ok
returns-in-Ok-clause-ok c =
    let position = rw (c.as_slice.ensures.value, c.as_str.ensures) at c.in-Ok.ensures in
    set_at c.args.members.now.items c.args.name c.args.tree c.in-Ok.position c.requires.members position

pub returns-in-Ok-clause-ordered : goal.returns-in-Ok-clause-ordered
returns-in-Ok-clause-ordered c =
    subst MembersOrdered (sym (returns-in-Ok-clause-ok c)) (ordered-inserted (members_of c.args.members.now.items) c.args.name (tree_of c.args.tree) c.requires.members c.requires.tree)

pub returns-in-Ok-clause-ranged : goal.returns-in-Ok-clause-ranged
returns-in-Ok-clause-ranged c =
    subst MembersRanged (sym (returns-in-Ok-clause-ok c)) (MembersRanged-inserted (members_of c.args.members.now.items) c.args.name (tree_of c.args.tree) c.requires.members_range c.requires.tree_range)

pub returns-in_ok-insert-in-Err-clause-ok : goal.returns-in_ok-insert-in-Err-clause-ok
returns-in_ok-insert-in-Err-clause-ok c =
    let gap = rw (c.as_slice.ensures.value, c.as_str.ensures) at c.in-Err.ensures in
    ap members_of (c.in_ok-insert-in-Err.ensures.items ∙ ap (λ ms. insert ms c.in-Err.position (c.args.name, c.args.tree)) c.make_room.ensures) ∙ insert_at c.args.members.now.items c.args.name c.args.tree c.in-Err.position gap

pub returns-in_ok-insert-in-Err-clause-ordered : goal.returns-in_ok-insert-in-Err-clause-ordered
returns-in_ok-insert-in-Err-clause-ordered c =
    subst MembersOrdered (sym (returns-in_ok-insert-in-Err-clause-ok c)) (ordered-inserted (members_of c.args.members.now.items) c.args.name (tree_of c.args.tree) c.requires.members c.requires.tree)

pub returns-in_ok-insert-in-Err-clause-ranged : goal.returns-in_ok-insert-in-Err-clause-ranged
returns-in_ok-insert-in-Err-clause-ranged c =
    subst MembersRanged (sym (returns-in_ok-insert-in-Err-clause-ok c)) (MembersRanged-inserted (members_of c.args.members.now.items) c.args.name (tree_of c.args.tree) c.requires.members_range c.requires.tree_range)
