use Rattle.std.proofs.Common.{◌≡◌, length, ap, ◌∙◌, arith}
use Rattle.b64url_text.specs.Base64url.{b64}
use Rattle.issuer_core.proofs.SaltSteps.{salts_count, each_salt, one_more}
use Rattle.issuer_core.proofs.salts.salts_of.Goals as goal

pub loop-preserved : goal.loop-preserved
loop-preserved c =
    let seed = c.args.seed.now in
    let k = c.loop.counter in
    let next = c.next_piece-piece.ensures seed k (omega (arith, c.loop-test.true, c.ranges.count.fits)) c.loop.invariant.0 in
    (next.1, c.in_ok-push.ensures.ok ∙ one_more seed k c.loop.salts c.in_ok-encode.field-0 c.loop.invariant.1 (c.in_ok-encode.ensures ∙ ap b64 next.0))

pub returns-clause-count : goal.returns-clause-count
returns-clause-count c =
    let end : c.loop.counter ≡ c.args.count = omega (arith, c.loop-test.false, c.loop.auto.counter-end) in
    ap length c.loop.invariant.1 ∙ (salts_count c.args.seed.now c.loop.counter ∙ end)

pub returns-clause-each : goal.returns-clause-each
returns-clause-each c k below =
    let end : c.loop.counter ≡ c.args.count = omega (arith, c.loop-test.false, c.loop.auto.counter-end) in
    rw c.loop.invariant.1 (each_salt c.args.seed.now c.loop.counter k (omega (arith, below, end)))
