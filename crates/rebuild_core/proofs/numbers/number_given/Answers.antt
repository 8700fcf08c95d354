-- A digest with an earlier place repeats, and another is new.
use Rattle.std.proofs.Common.{◌≡◌, ◌≤◌, take, sym, ap, ap₂, ◌∙◌, arith, below_more, add-one}
use Rattle.digest_index.specs.Index.{position_or_end, interned, ticked}
use Rattle.rebuild_core.specs.Reached.{given_digests}
use Rattle.rebuild_core.proofs.Repeated.{at_given, repeats_there, repeats_new, grows_new, digests_past}
use Rattle.rebuild_core.proofs.numbers.number_given.Goals as goal

pub returns-then-k-i-clause-repeated : goal.returns-then-k-i-clause-repeated
returns-then-k-i-clause-repeated c =
    let ds = given_digests c.args.given.now in
    let a = at_given c.items-item-items.result.now c.args.given.now c.loop-i.i c.item-item.result c.items-item-items.ensures c.loop-i-test.true c.item-item.is in
    let at : c.in_ok-k.k ≡ position_or_end c.item-item.result.digest (take c.loop-i.i ds) = c.in_ok-k.ensures.position ∙ ap₂ position_or_end c.as_str.ensures c.loop-i.invariant.0 in
    record { fails = repeats_there ds c.loop-i.i c.item-item.result.digest a (omega (arith, at, c.if-k-i.true)); first = c.loop-i.invariant.1 }

pub loop-i-preserved : goal.loop-i-preserved
loop-i-preserved c =
    let ds = given_digests c.args.given.now in
    let d = c.item-item.result.digest in
    let a = at_given c.items-item-items.result.now c.args.given.now c.loop-i.i c.item-item.result c.items-item-items.ensures c.loop-i-test.true c.item-item.is in
    let at : c.in_ok-k.k ≡ position_or_end d (take c.loop-i.i ds) = c.in_ok-k.ensures.position ∙ ap₂ position_or_end c.as_str.ensures c.loop-i.invariant.0 in
    let new : c.loop-i.i ≤ position_or_end d (take c.loop-i.i ds) = omega (arith, at, c.if-k-i.false) in (
      c.in_ok-k.ensures.ok ∙ (ap₂ interned c.as_str.ensures c.loop-i.invariant.0 ∙ (grows_new ds c.loop-i.i d a new ∙ ap (λ n. take n ds) (sym (add-one c.loop-i.i)))),
      below_more _ _ c.loop-i.invariant.1 (repeats_new ds c.loop-i.i d a new),
      c.intern.ensures.ticked ∙ (ap ticked c.loop-i.invariant.2 ∙ omega arith),
    )

pub returns-clause-repeated : goal.returns-clause-repeated
returns-clause-repeated c = λ q r.
    let b = digests_past c.items-item-items.result.now c.args.given.now q r.0 c.items-item-items.ensures r.1 in
    c.loop-i.invariant.1 q (omega (arith, b, c.loop-i-test.false)) r
