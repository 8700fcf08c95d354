use Rattle.std.proofs.Common.{Err, sym, ap, subst, refl}
use Rattle.std.specs.Option.{option_copied}
use Rattle.compact_form.specs.Views.{jwt_of}
use Rattle.key_binding.specs.CallerSeen.{Tells}
use Rattle.verifier_core.specs.Seen.{issuers_of}
use Rattle.verifier_core.specs.Verdict.{IsAlgRefusedBy, IsTypeRefused, IsUnknownBy, IsBadBy}
use Rattle.verifier_core.specs.Check.{bad_header, bad_alg, bad_type, no_key, not_signed}
use Rattle.verifier_core.proofs.check_signed.check_signed.Goals as goal

pub returns-in-Err-Unreadable-clause-refused : goal.returns-in-Err-Unreadable-clause-refused
returns-in-Err-Unreadable-clause-refused c = rw c.fails.ensures (bad_header (c.in-Err-Unreadable.ensures.unreadable (ap Err c.in-Err-Unreadable.field-0-is)) refl)

pub returns-then-is_alg_refused-clause-refused : goal.returns-then-is_alg_refused-clause-refused
returns-then-is_alg_refused-clause-refused c =
    rw (c.fails-then-is_alg_refused.ensures, ← c.rules.view_is)
    (bad_alg c.in-Ok.header c.in-Ok.ensures.ok (subst (IsAlgRefusedBy (issuers_of c.rules.inside.issuers)) c.as_str.ensures c.if-is_alg_refused.ensures) refl)

pub returns-then-is_type_refused-clause-refused : goal.returns-then-is_type_refused-clause-refused
returns-then-is_type_refused-clause-refused c =
    rw (c.fails-then-is_type_refused.ensures, ← c.rules.view_is)
    (bad_type c.in-Ok.header c.in-Ok.ensures.ok
    (λ w. c.if-is_alg_refused.ensures (subst (IsAlgRefusedBy (issuers_of c.rules.inside.issuers)) (sym c.as_str.ensures) w))
    (subst (IsTypeRefused (option_copied c.rules.inside.typ)) c.as_ref.ensures.value c.if-is_type_refused.ensures)
    refl)

pub returns-in-Bad-clause-refused : goal.returns-in-Bad-clause-refused
returns-in-Bad-clause-refused c =
    let told = subst (λ answer. Tells answer (IsUnknownBy (issuers_of c.rules.inside.issuers) c.in-Ok.header (jwt_of c.args.signed)) (IsBadBy (issuers_of c.rules.inside.issuers) c.in-Ok.header (jwt_of c.args.signed))) c.in-Bad.is c.in_ok-answer_on.ensures in
    rw (c.fails-in-Bad.ensures, ← c.rules.view_is)
    (not_signed c.in-Ok.header c.in-Ok.ensures.ok
    (λ w. c.if-is_alg_refused.ensures (subst (IsAlgRefusedBy (issuers_of c.rules.inside.issuers)) (sym c.as_str.ensures) w))
    (λ w. c.if-is_type_refused.ensures (subst (IsTypeRefused (option_copied c.rules.inside.typ)) (sym c.as_ref.ensures.value) w))
    told.0
    told.1
    refl)

pub returns-clause-refused : goal.returns-clause-refused
returns-clause-refused c =
    let told = subst (λ answer. Tells answer (IsUnknownBy (issuers_of c.rules.inside.issuers) c.in-Ok.header (jwt_of c.args.signed)) (IsBadBy (issuers_of c.rules.inside.issuers) c.in-Ok.header (jwt_of c.args.signed))) c.in-Unknown.is c.in_ok-answer_on.ensures in
    rw (c.fails-in-Unknown.ensures, ← c.rules.view_is)
    (no_key c.in-Ok.header c.in-Ok.ensures.ok
    (λ w. c.if-is_alg_refused.ensures (subst (IsAlgRefusedBy (issuers_of c.rules.inside.issuers)) (sym c.as_str.ensures) w))
    (λ w. c.if-is_type_refused.ensures (subst (IsTypeRefused (option_copied c.rules.inside.typ)) (sym c.as_ref.ensures.value) w))
    told
    refl)
