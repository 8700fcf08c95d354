use Rattle.holder_core.specs.Asked.{held_rules}
use Rattle.verifier_core.specs.Check.{OnFault}
use Rattle.refusals.specs.Lowest.{IsLowest}
use Rattle.refusals.specs.Faults.{failed_of}
use Rattle.verifier_core.specs.Verdict.{TokenFails}
use Rattle.std.proofs.Common.{subst}
use Rattle.wallet_core.proofs.answering.open_held.Goals as goal

pub returns-in-Ok-open-clause-checked : goal.returns-in-Ok-open-clause-checked
returns-in-Ok-open-clause-checked c = c.in-Ok-open.ensures.checked c.args.token.now (held_rules c.args.keys.now) c.in-Ok.ensures.content

pub returns-in-Ok-open-clause-within : goal.returns-in-Ok-open-clause-within
returns-in-Ok-open-clause-within c = (c.open.ensures.opened c.args.token.now (held_rules c.args.keys.now) c.in-Ok.ensures.content).within

pub returns-in-Err-Memory-open-clause-within : goal.returns-in-Err-Memory-open-clause-within
returns-in-Err-Memory-open-clause-within c = (c.open.ensures.opened c.args.token.now (held_rules c.args.keys.now) c.in-Ok.ensures.content).within

pub returns-in-Err-Fault-clause-none : goal.returns-in-Err-Fault-clause-none
returns-in-Err-Fault-clause-none c marked checked =
    let rules = held_rules c.args.keys.now in
    let low = subst (λ e. OnFault e (IsLowest (TokenFails c.args.token.now rules))) c.in-Err-Fault.field-0-is (c.in-Err-Fault.ensures.opened c.args.token.now rules c.in-Ok.ensures.content).refused in
    checked.passes (failed_of c.in-Err-Fault.field-0-0) c.in-Err-Fault.field-0-0.place low.fails

pub returns-in-Err-Fault-clause-within : goal.returns-in-Err-Fault-clause-within
returns-in-Err-Fault-clause-within c = (c.open.ensures.opened c.args.token.now (held_rules c.args.keys.now) c.in-Ok.ensures.content).within
