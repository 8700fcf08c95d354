use Rattle.std.proofs.Common.{drop, length, sym, ap, subst, ◌∙◌, arith, List}
use Rattle.std.proofs.lemmas.List.{length-map}
use Rattle.claim_tree.specs.View.{tree_of}
use Rattle.marked_tree.specs.Marked.{strip}
use Rattle.marked_tree.specs.Paths.{Path, is_among}
use Rattle.marked_tree.specs.Rests.{rests, AreSorted}
use Rattle.marked_tree.proofs.MarkFacts.{strips}
use Rattle.marked_tree.proofs.MarkSame.{Alike, mark_same, hidden_same}
use Rattle.marked_tree.proofs.PathOrder.{rests_zero}
use Rattle.marked_tree.proofs.HeadCounts.{inner_le}
use Rattle.marked_tree.proofs.marking.mark_counted.Goals as goal

pub mark_tree-requires-clause-sorted : goal.mark_tree-requires-clause-sorted
mark_tree-requires-clause-sorted c = subst AreSorted (sym (rests_zero c.as_slice.result.now ∙ c.as_slice.ensures.value)) c.in_ok-sorted.ensures.sorted

pub mark_tree-requires-clause-few : goal.mark_tree-requires-clause-few
mark_tree-requires-clause-few c =
    let xs = c.as_slice.result.now in
    let count = c.in_ok-sorted.ensures.count in
    let shown = ap (λ (ys : List Path). length ys) c.as_slice.ensures.value in
    let few = c.requires.few in
    omega (arith, inner_le (rests 0 xs), length-map xs (drop 0), count, shown, few)

pub alike : (c : goal.After-drop-sorted-2) → Alike (is_among (rests 0 c.as_slice.result.now)) (is_among c.args.paths)
alike c p =
    ap (λ ys. is_among ys p) (rests_zero c.as_slice.result.now ∙ c.as_slice.ensures.value) ∙ c.in_ok-sorted.ensures.same p

pub returns-clause-marked : goal.returns-clause-marked
returns-clause-marked c =
    c.in_ok-marked.ensures.marked ∙ mark_same (is_among (rests 0 c.as_slice.result.now)) (is_among c.args.paths) (alike c) 0 (tree_of c.args.tree)

pub returns-clause-strips : goal.returns-clause-strips
returns-clause-strips c = ap strip c.in_ok-marked.ensures.marked ∙ strips (is_among (rests 0 c.as_slice.result.now)) 0 (tree_of c.args.tree)

pub returns-clause-count : goal.returns-clause-count
returns-clause-count c =
    let counted = hidden_same (is_among (rests 0 c.as_slice.result.now)) (is_among c.args.paths) (alike c) (tree_of c.args.tree) in
    let next = c.in_ok-marked.ensures.next in
    omega (arith, next, counted)

pub returns-clause-few : goal.returns-clause-few
returns-clause-few c =
    let xs = c.as_slice.result.now in
    let count = c.in_ok-sorted.ensures.count in
    let shown = ap (λ (ys : List Path). length ys) c.as_slice.ensures.value in
    let few = c.in_ok-marked.ensures.few in
    omega (arith, few, inner_le (rests 0 xs), length-map xs (drop 0), count, shown)
