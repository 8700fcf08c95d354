use Rattle.std.proofs.Common.{ap, ◌∙◌, sym, subst}
use Rattle.claim_tree.specs.Tree.{MembersOrdered}
use Rattle.marked_tree.specs.Marked.{strip_members}
use Rattle.marked_tree.specs.View.{marked_of, marked_members_of}
use Rattle.marked_tree.proofs.Names.{ascend, set_at, insert_at, ordered-marked_inserted}
use Rattle.marked_tree.proofs.marked.set.Goals as goal

pub returns-in-Ok-clause-ok : goal.returns-in-Ok-clause-ok
returns-in-Ok-clause-ok c =
    let ms = c.args.members.now.items in
    let position = rw (c.as_slice.ensures.value, c.as_str.ensures) at c.in-Ok.ensures.place in
    set_at ms c.args.name c.args.mark c.args.tree c.in-Ok.position (ascend (marked_members_of ms) c.requires.members) position

pub returns-in-Ok-clause-ordered : goal.returns-in-Ok-clause-ordered
returns-in-Ok-clause-ordered c =
    subst (λ ns. MembersOrdered (strip_members ns)) (sym (returns-in-Ok-clause-ok c))
    (ordered-marked_inserted (marked_members_of c.args.members.now.items) c.args.name c.args.mark (marked_of c.args.tree) c.requires.members c.requires.tree)

pub returns-in_ok-insert-in-Err-clause-ok : goal.returns-in_ok-insert-in-Err-clause-ok
returns-in_ok-insert-in-Err-clause-ok c =
    let gap = rw (c.as_slice.ensures.value, c.as_str.ensures) at c.in-Err.ensures.place in
    ap marked_members_of c.in_ok-insert-in-Err.ensures.items ∙ insert_at c.args.members.now.items c.args.name c.args.mark c.args.tree c.in-Err.position gap

pub returns-in_ok-insert-in-Err-clause-ordered : goal.returns-in_ok-insert-in-Err-clause-ordered
returns-in_ok-insert-in-Err-clause-ordered c =
    subst (λ ns. MembersOrdered (strip_members ns)) (sym (returns-in_ok-insert-in-Err-clause-ok c))
    (ordered-marked_inserted (marked_members_of c.args.members.now.items) c.args.name c.args.mark (marked_of c.args.tree) c.requires.members c.requires.tree)
