use Rattle.std.proofs.Common.{◌+◌, List, subst, arith}
use Rattle.claim_tree.specs.Tree.{Text}
use Rattle.wallet_core.specs.LookUps.{RoseWithinSum}
use Rattle.wallet_core.proofs.Bests.{turn_best, last_best, decided_meets}
use Rattle.wallet_core.proofs.Bounds.{turn_within, all_within}
use Rattle.wallet_core.proofs.answering.answer.Goals as goal

pub returns-in_err-sent-clause-within : goal.returns-in_err-sent-clause-within
returns-in_err-sent-clause-within g c =
    let xs : List Text = c.elements-text-items.result.now in
    let keys = c.args.query.now.keys in
    let k = c.loop-index.index in
    let old = c.args.steps.now in
    let new = c.sent_parts.new.steps in
    let rose = turn_within keys xs k c.text-item.result c.bytes.result.now old c.loop-index.steps new c.loop-index-test.true c.text-item.is c.bytes.ensures c.loop-index.invariant.2 c.sent_parts.ensures.within in
    subst (λ (held : List Text). RoseWithinSum keys held old new) c.elements-text-items.ensures (all_within keys (k + 1) xs old new rose)

pub loop-index-preserved : goal.loop-index-preserved
loop-index-preserved g c =
    let xs : List Text = c.elements-text-items.result.now in
    let k = c.loop-index.index in (
      turn_best g.F.Fn c.args.consent.now c.args.query.now xs k c.text-item.result c.bytes.result.now c.loop-index.best c.in_ok-sent.sent c.better-best.result c.loop-index-test.true c.text-item.is c.bytes.ensures c.better-best.ensures.better c.in_ok-sent.ensures.told c.loop-index.invariant.0,
      c.better-best.ensures.words c.loop-index.invariant.1 c.in_ok-sent.ensures.words,
      turn_within c.args.query.now.keys xs k c.text-item.result c.bytes.result.now c.args.steps.now c.loop-index.steps c.sent_parts.new.steps c.loop-index-test.true c.text-item.is c.bytes.ensures c.loop-index.invariant.2 c.sent_parts.ensures.within,
    )

pub returns-in-Some-clause-meets : goal.returns-in-Some-clause-meets
returns-in-Some-clause-meets g c decided =
    let best = last_best g.F.Fn c.args.consent.now c.args.query.now c.elements-text-items.result.now c.args.held.now c.loop-index.index c.loop-index.best _ (omega (arith, c.loop-index-test.false)) c.elements-text-items.ensures c.in-Some.is c.loop-index.invariant.0 in
    decided_meets g.F.Fn c.args.consent.now c.args.query.now decided c.args.held.now c.in-Some.choice best.0

pub returns-in-Some-clause-fewest : goal.returns-in-Some-clause-fewest
returns-in-Some-clause-fewest g c =
    (last_best g.F.Fn c.args.consent.now c.args.query.now c.elements-text-items.result.now c.args.held.now c.loop-index.index c.loop-index.best _ (omega (arith, c.loop-index-test.false)) c.elements-text-items.ensures c.in-Some.is c.loop-index.invariant.0).1

pub returns-clause-none : goal.returns-clause-none
returns-clause-none g c is =
    last_best g.F.Fn c.args.consent.now c.args.query.now c.elements-text-items.result.now c.args.held.now c.loop-index.index c.loop-index.best _ (omega (arith, c.loop-index-test.false)) c.elements-text-items.ensures c.in-None.is c.loop-index.invariant.0
