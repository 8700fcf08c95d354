use Rattle.std.proofs.Common.{sym, ◌∙◌}
use Rattle.marked_tree.specs.View.{marked_members_of}
use Rattle.marked_tree.proofs.Names.{ascend, behind_all, behind_last}
use Rattle.marked_tree.proofs.marked.search_from_end.Goals as goal

pub returns-in-Some-clause-place : goal.returns-in-Some-clause-place
returns-in-Some-clause-place c =
    let less = behind_last c.compared.result (sym c.eq.ensures ∙ c.if-eq.true) in
    behind_all c.args.members.now c.args.name.now c.in-Some.last.now (ascend (marked_members_of c.args.members.now) c.requires) (sym c.in-Some.ensures.value) (sym c.compared.ensures ∙ less)
