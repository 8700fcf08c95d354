use Rattle.std.proofs.Common.{Err, ap}
use Rattle.key_binding.specs.JudgedSteps.{judged_of}
use Rattle.key_binding.proofs.BindingSteps.{refuse_unread}
use Rattle.key_binding.proofs.judging.check_payload.Goals as goal

pub returns-in-Err-Unreadable-clause-refused : goal.returns-in-Err-Unreadable-clause-refused
returns-in-Err-Unreadable-clause-refused c = refuse_unread (judged_of c.args.bound) c.requires.below (c.in-Err-Unreadable.ensures.unreadable (ap Err c.in-Err-Unreadable.field-0-is))
