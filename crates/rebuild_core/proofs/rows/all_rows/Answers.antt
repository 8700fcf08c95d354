use Rattle.std.proofs.Common.{◌≡◌, ◌++◌, ◌∷◌, [], length, ap, ◌∙◌, arith}
use Rattle.claim_tree.specs.View.{tree_of}
use Rattle.rebuild_core.specs.Rows.{all_rows, row_ends}
use Rattle.rebuild_core.proofs.GivenFacts.{item_shallow}
use Rattle.rebuild_core.proofs.RowSteps.{listed_more}
use Rattle.rebuild_core.proofs.rows.all_rows.Goals as goal

pub list_rows-requires-in-loop-item : goal.list_rows-requires-in-loop-item
list_rows-requires-in-loop-item c =
    item_shallow c.items-item-items.result.now c.args.given.now c.loop-item.item-index c.item-item.result c.items-item-items.ensures c.loop-item-test.true c.item-item.is c.requires.values

pub loop-item-preserved : goal.loop-item-preserved
loop-item-preserved c =
    let many : c.len-in-loop-item.result ≡ length c.list_rows-in-loop-item.new.out.items = omega (arith, c.len-in-loop-item.ensures) in
    listed_more (all_rows (tree_of c.args.payload.now) c.args.given.now) (row_ends (tree_of c.args.payload.now) c.args.given.now)
    c.loop-item.rows.items c.list_rows-in-loop-item.new.out.items c.loop-item.ends.items c.push-in-loop-item.new.self.items
    c.items-item-items.result.now c.loop-item.item-index c.item-item.result c.loop-item-test.true c.item-item.is c.loop-item.invariant
    c.in_ok-list_rows-2.ensures (c.in_ok-push-2.ensures.items ∙ ap (λ n. c.loop-item.ends.items ++ n ∷ []) many)
