use Rattle.std.proofs.Common.{rules, nat_cmp}
use Rattle.std.specs.Cmp.Lexicographic.{slice_cmp}
use Rattle.std.proofs.lemmas.Fn.{always_returns_same}
use Rattle.claim_tree.proofs.MapPlaces.{found}
use Rattle.claim_tree.proofs.tree.search.Goals as goal

pub returns : goal.returns
returns c =
    let facts = c.binary_search_by.ensures in
    found c.args.members.now c.args.name.now c.binary_search_by.result c.requires facts.bound
    (facts.position (λ m. slice_cmp nat_cmp m.0 c.args.name.now) (always_returns_same _ _ _ (λ a r g called. (search rules, search rules))))
