use Rattle.claim_tree.specs.View.{tree_of}
use Rattle.rebuild_core.proofs.Judged.{flat_found, risen_both, counted_both}
use Rattle.rebuild_core.proofs.references.number_all.Goals as goal

pub returns-in-Ok-number_list-clause-flat : goal.returns-in-Ok-number_list-clause-flat
returns-in-Ok-number_list-clause-flat c =
    let e = c.in-Ok-number_list.ensures in
    let found = c.in-Ok-number_list.found in
    flat_found (tree_of c.args.payload.now) c.args.given.now c.invariant.ensures.ordered c.requires.object c.in-Ok-all_rows.list.rows.items
    c.in-Ok.index found.index found.graph.numbers.items found.graph.ends.items
    c.in-Ok.ensures.repeated c.in-Ok.ensures.index c.in-Ok-all_rows.ensures.rows e.numbers e.index e.ends c.in-Ok-all_rows.ensures.ends

pub returns-in-Ok-number_list-clause-counted : goal.returns-in-Ok-number_list-clause-counted
returns-in-Ok-number_list-clause-counted c =
    counted_both (tree_of c.args.payload.now) c.args.given.now c.in-Ok-all_rows.list.rows.items c.args.steps.now c.index_given.new.steps c.number_list.new.steps
    c.invariant.ensures.ordered c.requires.object c.in-Ok-all_rows.ensures.rows c.in-Ok.ensures.counted c.in-Ok-number_list.ensures.counted

pub returns-in-Ok-number_list-clause-risen : goal.returns-in-Ok-number_list-clause-risen
returns-in-Ok-number_list-clause-risen c =
    risen_both (tree_of c.args.payload.now) c.args.given.now c.in-Ok-all_rows.list.rows.items c.args.steps.now c.index_given.new.steps c.number_list.new.steps
    c.invariant.ensures.ordered c.requires.object c.in-Ok-all_rows.ensures.rows c.index_given.ensures.risen c.number_list.ensures.risen

pub returns-in-Err-number_list-clause-risen : goal.returns-in-Err-number_list-clause-risen
returns-in-Err-number_list-clause-risen c =
    risen_both (tree_of c.args.payload.now) c.args.given.now c.in-Ok-all_rows.list.rows.items c.args.steps.now c.index_given.new.steps c.number_list.new.steps
    c.invariant.ensures.ordered c.requires.object c.in-Ok-all_rows.ensures.rows c.index_given.ensures.risen c.number_list.ensures.risen
