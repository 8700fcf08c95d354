use Rattle.std.proofs.Common.{◌≡◌, Err, ap}
use Rattle.std.proofs.lemmas.Result.{err_from_is_err_and}
use Rattle.jws_part.specs.Header.{no_object}
use Rattle.jws_part.specs.declared.body.BodyError.{BodyError}
use Rattle.jws_part.proofs.Headers.{read_not_unreadable, critical_not_unreadable}
use Rattle.sdjwt_cli.proofs.show.read_head.Goals as goal

pub returns-in_err-tree-clause-unreadable : goal.returns-in_err-tree-clause-unreadable
returns-in_err-tree-clause-unreadable c =
    let from = err_from_is_err_and c.from_residual.result c.from_residual.ensures.1 in
    rw (from.1, from.2) (λ e. let same : c.in_err-tree.field-0.0 ≡ BodyError.Unreadable = cc e in no_object (c.in_err-tree.ensures.unreadable (ap Err same)))

pub returns-in-Ok-clause-head : goal.returns-in-Ok-clause-head
returns-in-Ok-clause-head c = record { body = c.in_ok-tree.ensures.ok; readable = read_not_unreadable c.args.protected.now c.args.outer.now c.in-Ok.field-0 c.in-Ok.ensures.ok }

pub returns-in-Err-Unreadable-clause-unreadable : goal.returns-in-Err-Unreadable-clause-unreadable
returns-in-Err-Unreadable-clause-unreadable c e = c.in-Err-Unreadable.ensures.unreadable (ap Err c.in-Err-Unreadable.field-0-is)

pub returns-in-Err-Critical-clause-head : goal.returns-in-Err-Critical-clause-head
returns-in-Err-Critical-clause-head c = record { body = c.in_ok-tree.ensures.ok; readable = critical_not_unreadable c.args.protected.now c.args.outer.now (c.in-Err-Critical.ensures.critical (ap Err c.in-Err-Critical.field-0-is)) }
