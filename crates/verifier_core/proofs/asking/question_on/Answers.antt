use Rattle.std.proofs.Common.{Err, ap}
use Rattle.verifier_core.proofs.asking.question_on.Goals as goal

pub unreachable-requires : goal.unreachable-requires
unreachable-requires c = c.requires.readable (c.in-Err-Unreadable.ensures.unreadable (ap Err c.in-Err-Unreadable.field-0-is))
