use Rattle.std.proofs.Common.{List, length, map, ap, sym, subst, ◌∙◌, Bor, rules}
use Rattle.std.specs.List.Sorted.{IsPermutation}
use Rattle.std.proofs.lemmas.Fn.{dedup_same}
use Rattle.std.proofs.lemmas.List.Sorted.{ranks_by, answers_always}
use Rattle.std.proofs.lemmas.Result.{IfOk-weaker}
use Rattle.std.specs.Set.{distinct_count}
use Rattle.marked_tree.specs.Paths.{Path, same_path, is_among}
use Rattle.marked_tree.specs.Rests.{AreSorted}
use Rattle.marked_tree.proofs.DifferentPaths.{IsEachOnce, each_shown, same_shown, lower_shown}
use Rattle.marked_tree.proofs.PathOrder.{paths_total}
use Rattle.marked_tree.proofs.marking.different_paths.Goals as goal

abbrev path_of : Bor Path → Path
path_of path = path.now

once : (c : goal.After-drop-lent-2) → IsEachOnce (map path_of c.in_ok-lent.lent.items) (map path_of c.dedup_by.new.self.items)
once c =
    let moved : IsPermutation c.in_ok-lent.lent.items c.sort_by.new.self.items = search rules in
    each_shown path_of c.in_ok-lent.lent.items c.sort_by.new.self.items c.dedup_by.new.self.items moved
    (c.in_ok-sort_by.ensures.sorted (lower_shown path_of) (ranks_by paths_total path_of) (answers_always _ _ _ (λ f a r g h. search rules)))
    (dedup_same _ (same_shown path_of) _ (λ x y b f g h k. search rules) _ _ c.dedup_by.ensures.filtered)

pub returns-clause-same : goal.returns-clause-same
returns-clause-same c =
    IfOk-weaker c.copies_of.result _ _
    (λ copies is path. ap (λ (ps : List Path). is_among ps path) (is ∙ ap (map path_of) c.as_slice.ensures.value) ∙ ((once c).same path ∙ ap (λ (ps : List Path). is_among ps path) c.in_ok-lent.ensures))
    c.copies_of.ensures

pub returns-clause-sorted : goal.returns-clause-sorted
returns-clause-sorted c =
    IfOk-weaker c.copies_of.result _ _
    (λ copies is. subst AreSorted (sym (is ∙ ap (map path_of) c.as_slice.ensures.value)) (once c).sorted)
    c.copies_of.ensures

pub returns-clause-count : goal.returns-clause-count
returns-clause-count c =
    IfOk-weaker c.copies_of.result _ _
    (λ copies is. ap (λ (ps : List Path). length ps) (is ∙ ap (map path_of) c.as_slice.ensures.value) ∙ ((once c).count ∙ ap (distinct_count same_path) c.in_ok-lent.ensures))
    c.copies_of.ensures
