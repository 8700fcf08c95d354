use Rattle.std.proofs.Common.{rules}
use Rattle.std.specs.List.Sorted.{IsPermutation}
use Rattle.std.proofs.lemmas.Fn.{dedup_same}
use Rattle.std.proofs.lemmas.List.Sorted.{ranks_by, answers_always}
use Rattle.marked_tree.specs.Paths.{Path}
use Rattle.marked_tree.proofs.DifferentPaths.{IsEachOnce, each_once}
use Rattle.marked_tree.proofs.PathOrder.{lower_path, paths_total}
use Rattle.marked_tree.proofs.marking.sorted_paths.Goals as goal

once : (c : goal.After-dedup_by) → IsEachOnce c.args.paths c.dedup_by.new.self.items
once c =
    let moved : IsPermutation c.args.paths c.sort_by.new.self.items = search rules in
    each_once c.args.paths c.sort_by.new.self.items c.dedup_by.new.self.items moved
    (c.in_ok-sort_by.ensures.sorted lower_path (ranks_by paths_total (λ (p : Path). p)) (answers_always _ _ _ (λ f a r g h. search rules)))
    (dedup_same _ _ _ (λ x y b f g h k. search rules) _ _ c.dedup_by.ensures.filtered)

pub returns-clause-same : goal.returns-clause-same
returns-clause-same c = (once c).same

pub returns-clause-sorted : goal.returns-clause-sorted
returns-clause-sorted c = (once c).sorted

pub returns-clause-count : goal.returns-clause-count
returns-clause-count c = (once c).count
