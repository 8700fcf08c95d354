use Rattle.std.proofs.lemmas.Result.{err_from_is_err_and}
use Rattle.verifier_core.proofs.Contents.{content_uncounted}
use Rattle.verifier_core.proofs.token_checking.check.Goals as goal

pub returns-in-Err-open-clause-refused : goal.returns-in-Err-open-clause-refused
returns-in-Err-open-clause-refused c = (c.in-Err-open.ensures.opened c.args.token.now c.args.rules.now c.in-Ok.ensures.content).refused

pub returns-in-Err-open-clause-within : goal.returns-in-Err-open-clause-within
returns-in-Err-open-clause-within c = (c.open.ensures.opened c.args.token.now c.args.rules.now c.in-Ok.ensures.content).within

pub returns-in-Err-open-clause-uncounted : goal.returns-in-Err-open-clause-uncounted
returns-in-Err-open-clause-uncounted c = content_uncounted c.args.token.now c.args.rules.now c.in-Ok.content c.in-Ok.ensures.content c.args.steps.now c.open.new.steps

pub returns-in_err-payload-clause-within : goal.returns-in_err-payload-clause-within
returns-in_err-payload-clause-within c = (c.open.ensures.opened c.args.token.now c.args.rules.now c.in-Ok.ensures.content).within

pub returns-in_err-payload-clause-uncounted : goal.returns-in_err-payload-clause-uncounted
returns-in_err-payload-clause-uncounted c = content_uncounted c.args.token.now c.args.rules.now c.in-Ok.content c.in-Ok.ensures.content c.args.steps.now c.open.new.steps

pub returns-in_err-payload-clause-refused : goal.returns-in_err-payload-clause-refused
returns-in_err-payload-clause-refused c =
    let from = err_from_is_err_and c.from_residual.result c.from_residual.ensures.1 in
    rw (from.1, from.2) tt

pub returns-clause-within : goal.returns-clause-within
returns-clause-within c = (c.open.ensures.opened c.args.token.now c.args.rules.now c.in-Ok.ensures.content).within

pub returns-clause-uncounted : goal.returns-clause-uncounted
returns-clause-uncounted c = content_uncounted c.args.token.now c.args.rules.now c.in-Ok.content c.in-Ok.ensures.content c.args.steps.now c.open.new.steps

pub returns-clause-checked : goal.returns-clause-checked
returns-clause-checked c = c.in-Ok-open.ensures.checked c.args.token.now c.args.rules.now c.in-Ok.ensures.content

pub returns-clause-hash : goal.returns-clause-hash
returns-clause-hash c = c.hash-hash.ensures c.args.token.now c.args.rules.now c.in-Ok.ensures.content

pub returns-clause-counted : goal.returns-clause-counted
returns-clause-counted c = (c.in-Ok-open.ensures.opened c.args.token.now c.args.rules.now c.in-Ok.ensures.content).counted
