use Rattle.std.proofs.Common.{true, sym, ◌∙◌, ap, refl, slice_index_or, arith}
use Rattle.sd_outside.proofs.Lists.{At-In}
use Rattle.rebuild_core.proofs.Worklist.{At-index}
use Rattle.rebuild_core.proofs.MetNumbers.{seen_found, seen_step, seen_end}
use Rattle.rebuild_core.proofs.graph.first_recurring.Goals as goal

pub returns-then-is_set : goal.returns-then-is_set
returns-then-is_set c =
    let k = slice_index_or c.args.numbers.now c.loop-place.place 0 in
    let a = At-index c.args.numbers.now c.loop-place.place k 0 c.loop-place-test.true refl in
    seen_found c.args.numbers.now c.args.count c.loop-place.place k c.loop-place.seen.items c.loop-place.invariant a (c.requires k (At-In c.args.numbers.now c.loop-place.place k a))
    (ap (λ z. slice_index_or z k true) (sym c.as_slice.ensures.value) ∙ (sym c.is_set.ensures ∙ c.if-is_set.true))

pub loop-place-preserved : goal.loop-place-preserved
loop-place-preserved c =
    let k = slice_index_or c.args.numbers.now c.loop-place.place 0 in
    let a = At-index c.args.numbers.now c.loop-place.place k 0 c.loop-place-test.true refl in
    seen_step c.args.numbers.now c.args.count c.loop-place.place k c.loop-place.seen.items c.loop-place.invariant a
    (ap (λ z. slice_index_or z k true) (sym c.as_slice.ensures.value) ∙ (sym c.is_set.ensures ∙ c.if-is_set.false))

pub returns : goal.returns
returns c = seen_end c.args.numbers.now c.args.count c.loop-place.place c.loop-place.seen.items c.loop-place.invariant (omega (arith, c.loop-place-test.false))
