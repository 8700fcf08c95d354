use Rattle.std.proofs.Common.{◌-◌}
use Rattle.sdjwt_cli.proofs.GeneratedMembers.{PutsBehind}
use Rattle.sdjwt_cli.proofs.generated.+put.Given as goal

abbrev pub decreases-put_from : goal.decreases-put_from
decreases-put_from l = l.count - l.first

abbrev pub invariant-loop-digit : goal.invariant-loop-digit
invariant-loop-digit l = PutsBehind l.fn.count l.fn.first l.digit l.fn.members l.members
