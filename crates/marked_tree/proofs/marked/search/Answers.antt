use Rattle.std.proofs.Common.{rules, nat_cmp}
use Rattle.std.specs.Cmp.Lexicographic.{slice_cmp}
use Rattle.std.proofs.lemmas.Fn.{always_returns_same}
use Rattle.marked_tree.specs.View.{marked_members_of}
use Rattle.marked_tree.proofs.Names.{ascend, found}
use Rattle.marked_tree.proofs.marked.search.Goals as goal

pub returns-clause-place : goal.returns-clause-place
returns-clause-place c =
    let facts = c.binary_search_by.ensures in
    found c.args.members.now c.args.name.now c.binary_search_by.result (ascend (marked_members_of c.args.members.now) c.requires) facts.bound
    (facts.position (λ m. slice_cmp nat_cmp m.0 c.args.name.now) (always_returns_same _ _ _ (λ a r g called. (search rules, search rules))))
