use Rattle.std.proofs.Common.{◌≡◌, Err, sym, ap, ◌∙◌}
use Rattle.std.proofs.lemmas.Result.{err_from_is_err_and}
use Rattle.jws_part.specs.declared.header.HeaderError.{HeaderError}
use Rattle.jws_part.specs.Header.{no_object, nothing_said}
use Rattle.jws_part.specs.HeaderSteps.{unread_header}
use Rattle.jws_part.proofs.Headers.{unread_back}
use Rattle.jws_part.proofs.header.read_header_with.Goals as goal

pub returns-in_err-members-clause-unreadable : goal.returns-in_err-members-clause-unreadable
returns-in_err-members-clause-unreadable c unreadable =
    let handed = err_from_is_err_and c.from_residual.result c.from_residual.ensures.1 in
    let error : unread_header c.in_err-members.field-0.0 ≡ HeaderError.Unreadable = let both = sym handed.1 ∙ unreadable in cc (both, handed.2) in
    no_object (c.in_err-members.ensures.unreadable (ap Err (unread_back _ error)))

pub returns-in_err-header-clause-unreadable : goal.returns-in_err-header-clause-unreadable
returns-in_err-header-clause-unreadable c unreadable =
    let handed = err_from_is_err_and c.from_residual-in_err-header.result c.from_residual-in_err-header.ensures.1 in
    let error : unread_header c.in_err-header.field-0.0 ≡ HeaderError.Unreadable = let both = sym handed.1 ∙ unreadable in cc (both, handed.2) in
    nothing_said c.in_ok-members.members c.in_ok-members.ensures.ok (c.in_err-header.ensures.unreadable (ap Err (unread_back _ error)))
