use Rattle.std.proofs.Common.{Option, Some, None, IfOk, IfErr, IfSome, IfNone}
use Rattle.std.specs.Option.{ok_or}
use Rattle.disclosure.proofs.Unread.{unread_exit}
use Rattle.disclosure.proofs.disclosure.DisclosureReader.read_disclosed.Goals as goal

pub returns-in_err-found-clause-refused : goal.returns-in_err-found-clause-refused
returns-in_err-found-clause-refused c =
    unread_exit c.from_residual-in_err-found.result c.in_err-found.field-0.0 c.args.text.now _ c.from_residual-in_err-found.ensures.1 c.in_ok-count.ensures.ok (rw c.deref.ensures.value at c.in_err-found.ensures.unread)

ok_of : {X E : Type 0} (o : Option X) (e : E) (P Q : X → Type 0) → IfSome o P → ((x : X) → P x → Q x) → IfOk (ok_or o e) Q
ok_of (Some x) e P Q h f = f x h
ok_of None e P Q h f = tt

err_of : {X E : Type 0} (o : Option X) (e : E) (P : Type 0) (Q : E → Type 0) → IfNone o P → (P → Q e) → IfErr (ok_or o e) Q
err_of (Some x) e P Q h f = tt
err_of None e P Q h f = f h

pub returns-clause-ok : goal.returns-clause-ok
returns-clause-ok c =
    let read = rw c.deref.ensures.value at c.in_ok-found.ensures.ok in
    rw c.ok_or.ensures.value
    (ok_of c.disclosed_by.result _ _ _ c.disclosed_by.ensures.given
    (λ d given. let own = given _ read in (own.0, record { json = _; decodes = c.in_ok-count.ensures.ok; reads = own.1 })))

pub returns-clause-refused : goal.returns-clause-refused
returns-clause-refused c =
    let read = rw c.deref.ensures.value at c.in_ok-found.ensures.ok in
    rw c.ok_or.ensures.value
    (err_of c.disclosed_by.result _ _ _ c.disclosed_by.ensures.other
    (λ other. let t = other _ read in record { json = _; decodes = c.in_ok-count.ensures.ok; tree = t.0; reads = t.1; other = t.2 }))
