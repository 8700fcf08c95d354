use Rattle.std.proofs.Common.{◌≡◌, List, ◌++◌, length, map, drop, sym, ap, ap₂, subst, ◌∙◌}
use Rattle.claim_tree.specs.Tree.{Text}
use Rattle.disclosure.specs.Digest.{digest_of}
use Rattle.marked_tree.specs.Paths.{Path}
use Rattle.marked_tree.specs.Rests.{rests, AreSorted}
use Rattle.marked_tree.proofs.PathOrder.{rests_zero}
use Rattle.issuer_core.specs.Decoys.{decoy_paths}
use Rattle.issuer_core.specs.Laying.{digests_on_path, placed_at}
use Rattle.issuer_core.proofs.laying.lay_by_salts.Goals as goal

pub lay_marked-requires-clause-decoys : goal.lay_marked-requires-clause-decoys
lay_marked-requires-clause-decoys c =
    let d = c.all.result in
    let sorted = c.in_ok-sorted.ensures.sorted in
    record {
      sorted = subst (λ n. AreSorted (rests n d.paths.now)) (sym c.all.ensures.depth) (subst AreSorted (sym (rests_zero d.paths.now ∙ c.all.ensures.paths)) sorted);
      each = ap length c.all.ensures.digests ∙ (c.in_ok-sorted.ensures.each ∙ sym (ap length c.all.ensures.paths));
    }

pub returns : goal.returns
returns c =
    let d = c.all.result in
    let ps = decoy_paths c.args.decoys.now in
    let seen : (q : Path) → placed_at d q ≡ digests_on_path ps (map (digest_of c.args.hiding.hash) (drop c.args.hidden c.args.hiding.salts.now)) q =
    λ q. ap (λ n. digests_on_path (rests n d.paths.now) d.digests.now q) c.all.ensures.depth
    ∙ (ap₂ (λ (xs : List Path) (ds : List Text). digests_on_path xs ds q) (rests_zero d.paths.now ∙ c.all.ensures.paths) c.all.ensures.digests
    ∙ (c.in_ok-sorted.ensures.placed q ∙ ap (λ ds. digests_on_path ps ds q) c.in_ok-of_decoys.ensures)) in
    let told = c.in_ok-laid.ensures in
    record {
      laid = λ dec tells more. told.laid dec (λ q. seen q ∙ tells q) more;
      made = λ dec tells more. told.texts dec (λ q. seen q ∙ tells q) more;
      count = told.count ∙ c.requires.hidden;
      digests_are = c.in_ok-push_texts.ensures ∙ ap₂ (λ (xs ys : List Text). xs ++ ys) told.digests c.in_ok-of_decoys.ensures;
    }
