use Rattle.std.proofs.Common.{◌≡◌, List, ◌++◌, Result, Ok, Err, IfOk, sym, ap, ap₂, subst, ◌∙◌, append-nil, rules}
use Rattle.std.proofs.Math.ListN.{drop_of_length-le}
use Rattle.std.proofs.lemmas.Result.{IfOk-weaker}
use Rattle.std.proofs.lemmas.List.Sorted.{ranks_by, answers_always}
use Rattle.claim_tree.specs.Tree.{Text}
use Rattle.marked_tree.specs.Paths.{Path}
use Rattle.marked_tree.specs.Rests.{AreSorted}
use Rattle.marked_tree.proofs.PathOrder.{paths_total}
use Rattle.issuer_core.specs.Decoys.{decoy_paths}
use Rattle.issuer_core.specs.Laying.{digests_on_path, paths_in}
use Rattle.issuer_core.proofs.SortedEntries.{Entry, lower, placed_sorted, paths_sorted, all_entries}
use Rattle.issuer_core.proofs.decoys.sort_decoys.Goals as goal

pub returns-clause-sorted : goal.returns-clause-sorted
returns-clause-sorted c =
    let sorted = paths_sorted c.sort_by.new.self.items (c.in_ok-sort_by.ensures.sorted lower (ranks_by paths_total (λ (e : Entry). e.0)) (answers_always _ _ _ (λ f a r g h. search rules))) in
    IfOk-weaker c.parted.result _ _ (λ parted e. subst AreSorted (sym e) sorted) c.parted.ensures.paths

both : {T E : Type 0} (r : Result T E) (P Q R : T → Type 0) → ((x : T) → P x → Q x → R x) → IfOk r P → IfOk r Q → IfOk r R
both (Ok x) P Q R f p q = f x p q
both (Err x) P Q R f p q = tt

pub returns-clause-placed : goal.returns-clause-placed
returns-clause-placed c =
    let l = c.loop-decoy in
    let es = l.entries.items in
    let new = c.sort_by.new.self.items in
    let stable = c.in_ok-sort_by.ensures.stable lower (ranks_by paths_total (λ (e : Entry). e.0)) (answers_always _ _ _ (λ f a r g h. search rules)) in
    let none = drop_of_length-le c.elements-decoy-items.result.now c.loop-decoy-test.false in
    let paths : paths_in es ≡ decoy_paths c.args.decoys.now =
    sym (append-nil (paths_in es)) ∙ (ap (λ ds. paths_in es ++ decoy_paths ds) (sym none) ∙ (l.invariant.0 ∙ ap decoy_paths c.elements-decoy-items.ensures)) in
    let texts = all_entries es c.args.digests.now (decoy_paths c.args.decoys.now) paths l.invariant.1 c.requires in
    both c.parted.result _ _ _
    (λ parted e f at.
    ap₂ (λ (ps : List Path) (ds : List Text). digests_on_path ps ds at) e f
    ∙ (placed_sorted es new stable at ∙ ap₂ (λ (ps : List Path) (ds : List Text). digests_on_path ps ds at) paths texts)) c.parted.ensures.paths c.parted.ensures.digests
