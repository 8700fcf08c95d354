use Rattle.std.proofs.Common.{inl, inr, Err, refl, ap}
use Rattle.claim_tree.specs.Tree.{no_members}
use Rattle.refusals.specs.declared.condition.Condition.{Condition}
use Rattle.jws_part.proofs.Headers.{read_not_unreadable, read_not_critical}
use Rattle.key_binding.specs.JudgedSteps.{judged_of}
use Rattle.key_binding.proofs.BindingSteps.{refuse, at28}
use Rattle.key_binding.proofs.HolderSteps.{known_unread}
use Rattle.key_binding.proofs.judging.check_signed.Goals as goal

pub returns-in-Err-Unreadable-clause-refused : goal.returns-in-Err-Unreadable-clause-refused
returns-in-Err-Unreadable-clause-refused c =
    let j = judged_of c.args.bound in
    let unread = c.in-Err-Unreadable.ensures.unreadable (ap Err c.in-Err-Unreadable.field-0-is) in
    let known = known_unread j j.rules.holders c.args.holder c.requires.holder (λ h has. read_not_unreadable j.token.protected no_members h has unread) in
    refuse j Condition.BindingHeader (at28 j known) (refl, inl unread)

pub returns-in-Err-Critical-clause-refused : goal.returns-in-Err-Critical-clause-refused
returns-in-Err-Critical-clause-refused c =
    let j = judged_of c.args.bound in
    let critical = c.in-Err-Critical.ensures.critical (ap Err c.in-Err-Critical.field-0-is) in
    let known = known_unread j j.rules.holders c.args.holder c.requires.holder (λ h has. read_not_critical j.token.protected no_members h has critical) in
    refuse j Condition.BindingHeader (at28 j known) (refl, inr critical)
