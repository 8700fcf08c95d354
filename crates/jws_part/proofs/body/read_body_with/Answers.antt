use Rattle.std.proofs.Common.{◌≡◌, Err, sym, ap, ◌∙◌}
use Rattle.std.proofs.lemmas.Result.{err_from_is_err_and}
use Rattle.jws_part.specs.declared.body.BodyError.{BodyError}
use Rattle.jws_part.proofs.body.read_body_with.Goals as goal

pub returns-in_err-members-clause-unreadable : goal.returns-in_err-members-clause-unreadable
returns-in_err-members-clause-unreadable c unreadable =
    let handed = err_from_is_err_and c.from_residual.result c.from_residual.ensures.1 in
    let error : c.in_err-members.field-0.0 ≡ BodyError.Unreadable = let both = sym handed.1 ∙ unreadable in cc (both, handed.2) in
    c.in_err-members.ensures.unreadable (ap Err error)
