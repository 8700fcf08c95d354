use Rattle.std.proofs.Common.{◌≡◌, ℕ, ◌+◌, List, length, sym, ap, subst, ◌∙◌, arith}
use Rattle.std.proofs.lemmas.Map.Made.{distinct_count-le}
use Rattle.std.proofs.lemmas.Result.{IfOk-weaker}
use Rattle.claim_tree.specs.Tree.{Tree}
use Rattle.claim_tree.specs.View.{tree_of}
use Rattle.marked_tree.specs.Marked.{Marked}
use Rattle.marked_tree.specs.Paths.{Path, same_path, is_among, mark, hidden_count}
use Rattle.marked_tree.specs.Ways.{weight}
use Rattle.marked_tree.specs.View.{marked_of}
use Rattle.marked_tree.proofs.MarkSame.{mark_same, hidden_same}
use Rattle.issuer_core.specs.Order.{order_of}
use Rattle.issuer_core.specs.Decoys.{decoys_of}
use Rattle.issuer_core.specs.Digests.{hidden_of}
use Rattle.issuer_core.specs.Digests as order
use Rattle.issuer_core.specs.Closing.{one, ClosesFrom}
use Rattle.issuer_core.specs.Laying.{IsLaidWith}
use Rattle.issuer_core.proofs.Closing.{order_closes, order_marks}
use Rattle.issuer_core.proofs.LaidOrders.{order_laid}
use Rattle.issuer_core.proofs.laying.lay_by_seed.Goals as goal

pub mark_counted-requires-clause-few : goal.mark_counted-requires-clause-few
mark_counted-requires-clause-few c = let few = c.requires.few in omega (arith, distinct_count-le same_path c.args.places, few)

-- what is marked by the one paths is marked by the others
module _ (places hide : List Path) (same : (path : Path) → is_among places path ≡ is_among hide path) (t : Tree) where
  marked : (m : Marked) → m ≡ mark t places → m ≡ mark t hide
  marked m is = is ∙ mark_same (is_among places) (is_among hide) same 0 t

  hidden : (n : ℕ) → n ≡ hidden_count t places → n ≡ hidden_count t hide
  hidden n is = is ∙ hidden_same (is_among places) (is_among hide) same t

pub lay_by_salts-requires-clause-closes : goal.lay_by_salts-requires-clause-closes
lay_by_salts-requires-clause-closes c =
    let is = marked c.args.places c.args.order.hide c.requires.same (tree_of c.args.order.payload) (marked_of c.in_ok-claims.claims) c.in_ok-claims.ensures.marked in
    subst (λ m. ClosesFrom 0 m) (sym is) (order_closes (order_of c.args.order))

pub lay_by_salts-requires-clause-hidden : goal.lay_by_salts-requires-clause-hidden
lay_by_salts-requires-clause-hidden c =
    let is = marked c.args.places c.args.order.hide c.requires.same (tree_of c.args.order.payload) (marked_of c.in_ok-claims.claims) c.in_ok-claims.ensures.marked in
    let many = hidden c.args.places c.args.order.hide c.requires.same (tree_of c.args.order.payload) c.in_ok-claims.hidden c.in_ok-claims.ensures.count in
    ap (weight one) is ∙ (order_marks (order_of c.args.order) ∙ sym many)

pub returns-clause-laid : goal.returns-clause-laid
returns-clause-laid c =
    let o = order_of c.args.order in
    let salts = c.in_ok-salts.salts in
    let long = c.in_ok-salts.ensures.count in
    let are_hidden : c.in_ok-claims.hidden ≡ hidden_of o = hidden c.args.places c.args.order.hide c.requires.same (tree_of c.args.order.payload) c.in_ok-claims.hidden c.in_ok-claims.ensures.count in
    let decoys = c.decoy_count.ensures in
    let many : length salts ≡ hidden_of o + length (decoys_of o) = omega (arith, long, are_hidden, decoys) in
    let are_marked : marked_of c.in_ok-claims.claims ≡ order.marked_claims o = marked c.args.places c.args.order.hide c.requires.same (tree_of c.args.order.payload) (marked_of c.in_ok-claims.claims) c.in_ok-claims.ensures.marked in
    IfOk-weaker c.lay_by_salts.result _ _
    (λ l h. order_laid c.args.seed.now o salts l.texts l.digests (tree_of l.payload) many
    (λ k low. sym (c.in_ok-salts.ensures.each k (omega (arith, low, long))))
    (subst (λ n. IsLaidWith o.hash salts n (decoys_of o) (order.marked_claims o) (tree_of l.payload) l.texts l.digests) are_hidden
    (subst (λ m. IsLaidWith o.hash salts c.in_ok-claims.hidden (decoys_of o) m (tree_of l.payload) l.texts l.digests) are_marked h)))
    c.lay_by_salts.ensures

pub returns-clause-few : goal.returns-clause-few
returns-clause-few c =
    let different = c.in_ok-claims.ensures.few in
    let few = c.requires.few in
    IfOk-weaker c.lay_by_salts.result _ _ (λ l h. let count = h.count in omega (arith, distinct_count-le same_path c.args.places, different, few, count)) c.lay_by_salts.ensures
