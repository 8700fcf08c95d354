use Rattle.std.proofs.Common.{ap, ◌∙◌, sym, subst}
use Rattle.claim_tree.specs.Tree.{MembersOrdered}
use Rattle.marked_tree.specs.Marked.{strip_members}
use Rattle.marked_tree.specs.View.{marked_of, marked_members_of}
use Rattle.marked_tree.proofs.Names.{ascend, put_there, put_gap, ordered-put}
use Rattle.marked_tree.proofs.marked.add.Goals as goal

pub returns-in_ok-insert-clause-ok : goal.returns-in_ok-insert-clause-ok
returns-in_ok-insert-clause-ok c =
    let gap = rw (c.as_slice.ensures.value, c.as_str.ensures) at c.in-Err.ensures.place in
    ap marked_members_of c.in_ok-insert.ensures.items ∙ put_gap c.args.members.now.items c.args.name c.args.mark c.args.tree c.in-Err.position gap

pub returns-in_ok-insert-clause-ordered : goal.returns-in_ok-insert-clause-ordered
returns-in_ok-insert-clause-ordered c =
    subst (λ ns. MembersOrdered (strip_members ns)) (sym (returns-in_ok-insert-clause-ok c))
    (ordered-put c.args.name c.args.mark (marked_of c.args.tree) (marked_members_of c.args.members.now.items) c.requires.members c.requires.tree)

pub returns-in_default-clause-ok : goal.returns-in_default-clause-ok
returns-in_default-clause-ok c =
    let ms = c.args.members.now.items in
    let position = rw (c.as_slice.ensures.value, c.as_str.ensures) at c.in_default.ensures.place in
    sym (put_there ms c.args.name c.args.mark c.args.tree c.in_default.field-0 (ascend (marked_members_of ms) c.requires.members) position)
