use Rattle.std.proofs.Common.{◌≡◌, ◌<◌, ⊎_elim, length, sym, ap, subst, arith}
use Rattle.std.proofs.lemmas.List.{length-map}
use Rattle.claim_tree.specs.Tree.{IsOrdered}
use Rattle.sd_outside.specs.Lists.{StandsAt}
use Rattle.claim_tree.proofs.Counting.{before_or_at}
use Rattle.sd_outside.proofs.Lists.{At-below, At-same, In-At}
use Rattle.digest_sites.specs.Given.{Given}
use Rattle.digest_sites.specs.GivenView.{given_of}
use Rattle.rebuild_core.proofs.GivenFacts.{item_at}
use Rattle.rebuild_core.proofs.readable.is_readable.Goals as goal

pub loop-item-preserved : goal.loop-item-preserved
loop-item-preserved c = λ i x l a. ⊎_elim
    (λ before. c.loop-item.invariant i x before a)
    (λ here.
    let item = given_of c.item-item.result in
    let at = item_at c.items-item-items.result.now c.args.given.now c.loop-item.item-index c.item-item.result c.items-item-items.ensures c.loop-item-test.true c.item-item.is in
    let same : x ≡ item = At-same c.args.given.now c.loop-item.item-index x item (subst (λ z. StandsAt c.args.given.now z x) here a) at in
    subst (λ (z : Given). IsOrdered z.value) (sym same) c.invariant-in-loop-item.ensures.ordered)
    (before_or_at i c.loop-item.item-index l)

pub returns : goal.returns
returns c = record {
  in_payload = c.invariant.ensures.ordered;
  in_values = λ x h.
      let w = In-At c.args.given.now x h in
      let few : w.0 < c.loop-item.item-index =
      omega (arith, At-below c.args.given.now w.0 x w.1, length-map c.items-item-items.result.now given_of, ap length c.items-item-items.ensures, c.loop-item-test.false) in
      c.loop-item.invariant w.0 x few w.1;
}
