use Rattle.std.proofs.Common.{rules}
use Rattle.std.specs.List.Sorted.{IsPermutation}
use Rattle.std.proofs.lemmas.Fn.{dedup_same}
use Rattle.std.proofs.lemmas.List.Sorted.{ranks_by, answers_always}
use Rattle.marked_tree.specs.Paths.{Path}
use Rattle.marked_tree.proofs.PathOrder.{lower_path, paths_total}
use Rattle.selection_core.proofs.NeverShown.{shown_too}
use Rattle.selection_core.proofs.OutermostPaths.{IsOutermostOf, outermost_of}
use Rattle.selection_core.proofs.never.NeverPlaces.of.Goals as goal

outermost : (c : goal.After-dedup_by) → IsOutermostOf c.args.paths c.dedup_by.new.self.items
outermost c =
    let moved : IsPermutation c.args.paths c.sort_by.new.self.items = search rules in
    outermost_of c.args.paths c.sort_by.new.self.items c.dedup_by.new.self.items moved
    (c.in_ok-sort_by.ensures.sorted lower_path (ranks_by paths_total (λ (p : Path). p)) (answers_always _ _ _ (λ f a r g h. search rules)))
    (dedup_same _ _ _ (λ x y b f g h k. search rules) _ _ c.dedup_by.ensures.filtered)

pub returns : goal.returns
returns c = record { same = λ at. shown_too c.dedup_by.new.self.items c.args.paths at ((outermost c).same at) }

pub invariant_of-result : goal.invariant_of-result
invariant_of-result c = (outermost c).apart
