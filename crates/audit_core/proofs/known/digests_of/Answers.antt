use Rattle.std.proofs.Common.{◌∙◌}
use Rattle.audit_core.proofs.Loops.{given_more, given_all}
use Rattle.audit_core.proofs.known.digests_of.Goals as goal

pub loop-one-preserved : goal.loop-one-preserved
loop-one-preserved c = λ digest. let a = c.in_ok-add.ensures digest in given_more c.items-one-items.result.now c.loop-one.one-index c.one-item.result digest _ _ c.as_str.result.now c.loop-one-test.true c.one-item.is c.as_str.ensures (c.loop-one.invariant digest) a

pub returns : goal.returns
returns c = λ digest. c.loop-one.invariant digest ∙ given_all c.items-one-items.result.now c.args.given.now c.loop-one.one-index digest c.loop-one-test.false c.items-one-items.ensures
