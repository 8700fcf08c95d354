use Rattle.std.proofs.Common.{sym, ◌∙◌, arith}
use Rattle.claim_tree.specs.View.{tree_of}
use Rattle.digest_sites.specs.GivenView.{given_of}
use Rattle.rebuild_core.specs.Payload.{without_alg}
use Rattle.rebuild_core.proofs.AlgFacts.{misuses_without}
use Rattle.rebuild_core.proofs.GivenFacts.{item_at}
use Rattle.rebuild_core.proofs.Misuses.{payload_misuses, payload_is_well, value_misuses, value_is_well, all_well}
use Rattle.rebuild_core.proofs.references.first_misused.Goals as goal

pub returns-then-is_misused : goal.returns-then-is_misused
returns-then-is_misused c =
    let t = tree_of c.args.payload.now in
    payload_misuses (without_alg t) c.args.given.now (misuses_without t c.invariant.ensures.ordered c.requires ∙ (sym c.is_misused.ensures ∙ c.if-is_misused.true))

pub loop-i-init : goal.loop-i-init
loop-i-init c =
    let t = tree_of c.args.payload.now in
    payload_is_well (without_alg t) c.args.given.now (misuses_without t c.invariant.ensures.ordered c.requires ∙ (sym c.is_misused.ensures ∙ c.if-is_misused.false))

pub returns-then-is_misused-2 : goal.returns-then-is_misused-2
returns-then-is_misused-2 c =
    let p = without_alg (tree_of c.args.payload.now) in
    let a = item_at c.items-item-items.result.now c.args.given.now c.loop-i.i c.item-item.result c.items-item-items.ensures c.loop-i-test.true c.item-item.is in
    record {
      fails = value_misuses p c.args.given.now c.loop-i.i (given_of c.item-item.result) a (sym c.is_misused-in-loop-i.ensures ∙ c.if-is_misused-2.true);
      first = λ r l. c.loop-i.invariant r (omega (arith, l));
    }

pub loop-i-preserved : goal.loop-i-preserved
loop-i-preserved c =
    let p = without_alg (tree_of c.args.payload.now) in
    let a = item_at c.items-item-items.result.now c.args.given.now c.loop-i.i c.item-item.result c.items-item-items.ensures c.loop-i-test.true c.item-item.is in
    value_is_well p c.args.given.now c.loop-i.i (given_of c.item-item.result) a (sym c.is_misused-in-loop-i.ensures ∙ c.if-is_misused-2.false) c.loop-i.invariant

pub returns : goal.returns
returns c =
    all_well (without_alg (tree_of c.args.payload.now)) c.items-item-items.result.now c.args.given.now c.loop-i.i c.items-item-items.ensures (omega (arith, c.loop-i-test.false)) c.loop-i.invariant
