use Rattle.std.proofs.Common.{refl}
use Rattle.marked_tree.specs.View.{marked_of}
use Rattle.verifier_core.proofs.verdict.AcceptedOpened.open.Goals as goal

pub returns-in-Err-clause-opened : goal.returns-in-Err-clause-opened
returns-in-Err-clause-opened c token rules is = let opened = c.in-Err.ensures.opened token rules is in record { refused = opened.refused; counted = tt; within = opened.within }

pub returns-in-Ok-strip-clause-checked : goal.returns-in-Ok-strip-clause-checked
returns-in-Ok-strip-clause-checked c token rules is = (marked_of c.in-Ok.marked, c.in-Ok.ensures.checked token rules is, (refl, c.in-Ok-strip.ensures))

pub returns-in-Ok-strip-clause-opened : goal.returns-in-Ok-strip-clause-opened
returns-in-Ok-strip-clause-opened c token rules is = let opened = c.in-Ok.ensures.opened token rules is in record { refused = tt; counted = opened.counted; within = opened.within }

pub returns-in-Err-strip-clause-opened : goal.returns-in-Err-strip-clause-opened
returns-in-Err-strip-clause-opened c token rules is = let opened = c.in-Ok.ensures.opened token rules is in record { refused = tt; counted = tt; within = opened.within }
