use Rattle.std.proofs.Common.{arith}
use Rattle.hmac_sign.proofs.Equal.{turn, tells_equal}
use Rattle.hmac_sign.proofs.keyed_hash.are_equal.Goals as goal

pub loop-i-preserved : goal.loop-i-preserved
loop-i-preserved c = turn c.args.code.now c.args.other.now c.loop-i.differing c.loop-i.i c.loop-i.invariant

pub returns : goal.returns
returns c =
    tells_equal c.args.code.now c.args.other.now c.loop-i.differing c.loop-i.i c.loop-i.invariant (omega arith) (omega arith)
