use Rattle.sdjwt_cli.proofs.GeneratedMembers.{PutsDigits}
use Rattle.sdjwt_cli.proofs.generated.members.Given as goal

abbrev pub invariant-loop-digit : goal.invariant-loop-digit
invariant-loop-digit l = PutsDigits l.fn.count l.digit l.members
