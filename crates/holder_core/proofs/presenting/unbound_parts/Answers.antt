use Rattle.std.proofs.Common.{inl, inr, sym, ◌∙◌}
use Rattle.std.proofs.lemmas.Result.{err_from_is_err_and}
use Rattle.claim_tree.specs.View.{tree_of}
use Rattle.marked_tree.specs.View.{marked_of}
use Rattle.holder_core.proofs.Steps.{unchecked_handed}
use Rattle.holder_core.proofs.WholeToken.{whole_ready, whole_unready}
use Rattle.holder_core.proofs.presenting.unbound_parts.Goals as goal

pub returns-in_err-content-clause-refused : goal.returns-in_err-content-clause-refused
returns-in_err-content-clause-refused g c =
    let from = err_from_is_err_and c.from_residual.result c.from_residual.ensures.1 in
    rw (from.1, from.2) (inl c.in_err-content.ensures.refused)

pub returns-in_err-payload-clause-refused : goal.returns-in_err-payload-clause-refused
returns-in_err-payload-clause-refused g c = unchecked_handed g.F.Fn c.args.consent.now c.args.token.now c.args.asked.now c.from_residual-in_err-payload.result c.in_err-payload.field-0.0 c.from_residual-in_err-payload.ensures.1 (c.in_err-payload.ensures.opened c.args.token.now c.args.asked.now.rules c.in_ok-content.ensures.content).refused

pub returns-in_err-payload-clause-within : goal.returns-in_err-payload-clause-within
returns-in_err-payload-clause-within g c = (c.open_payload.ensures.opened c.args.token.now c.args.asked.now.rules c.in_ok-content.ensures.content).within

pub returns-in_err-unbound-clause-refused : goal.returns-in_err-unbound-clause-refused
returns-in_err-unbound-clause-refused g c =
    let none = sym c.count.ensures ∙ c.if-count-eq0.true in
    let is = c.in_ok-payload.ensures.checked c.args.token.now c.args.asked.now.rules c.in_ok-content.ensures.content in
    let from = err_from_is_err_and c.from_residual-in_err-unbound.result c.from_residual-in_err-unbound.ensures.1 in
    rw (from.1, from.2) (inr (whole_unready g.F.Fn c.args.consent.now c.args.token.now c.args.asked.now none c.requires.unbound.unbound (tree_of c.in_ok-payload.payload) is c.in_err-unbound.field-0.0 c.in_err-unbound.ensures.refused))

pub returns-in_err-unbound-clause-within : goal.returns-in_err-unbound-clause-within
returns-in_err-unbound-clause-within g c = (c.open_payload.ensures.opened c.args.token.now c.args.asked.now.rules c.in_ok-content.ensures.content).within

pub returns-then-count-eq0-clause-ready : goal.returns-then-count-eq0-clause-ready
returns-then-count-eq0-clause-ready g c =
    let none = sym c.count.ensures ∙ c.if-count-eq0.true in
    let is = c.in_ok-payload.ensures.checked c.args.token.now c.args.asked.now.rules c.in_ok-content.ensures.content in
    (is.0, whole_ready g.F.Fn c.args.consent.now c.args.token.now c.args.asked.now none c.requires.unbound.unbound (tree_of c.in_ok-payload.payload) is c.in_ok-unbound.unbound c.in_ok-unbound.ensures.ready)

pub returns-then-count-eq0-clause-hash : goal.returns-then-count-eq0-clause-hash
returns-then-count-eq0-clause-hash g c = c.hash-hash.ensures c.args.token.now c.args.asked.now.rules c.in_ok-content.ensures.content

pub returns-then-count-eq0-clause-counted : goal.returns-then-count-eq0-clause-counted
returns-then-count-eq0-clause-counted g c = (c.in_ok-payload.ensures.opened c.args.token.now c.args.asked.now.rules c.in_ok-content.ensures.content).counted

pub returns-then-count-eq0-clause-within : goal.returns-then-count-eq0-clause-within
returns-then-count-eq0-clause-within g c = (c.open_payload.ensures.opened c.args.token.now c.args.asked.now.rules c.in_ok-content.ensures.content).within

pub returns-in_err-marked-clause-refused : goal.returns-in_err-marked-clause-refused
returns-in_err-marked-clause-refused g c = unchecked_handed g.F.Fn c.args.consent.now c.args.token.now c.args.asked.now c.from_residual-in_err-marked.result c.in_err-marked.field-0.0 c.from_residual-in_err-marked.ensures.1 (c.in_err-marked.ensures.opened c.args.token.now c.args.asked.now.rules c.in_ok-content.ensures.content).refused

pub returns-in_err-marked-clause-within : goal.returns-in_err-marked-clause-within
returns-in_err-marked-clause-within g c = (c.open.ensures.opened c.args.token.now c.args.asked.now.rules c.in_ok-content.ensures.content).within

pub allowed_parts-requires-clause-held : goal.allowed_parts-requires-clause-held
allowed_parts-requires-clause-held g c = record { unbound = c.requires.unbound.unbound; checked = c.in_ok-marked.ensures.checked c.args.token.now c.args.asked.now.rules c.in_ok-content.ensures.content }

pub returns-in-Ok-clause-ready : goal.returns-in-Ok-clause-ready
returns-in-Ok-clause-ready g c = (marked_of c.in_ok-marked.marked, c.in-Ok.ensures.ready)

pub returns-in-Ok-clause-hash : goal.returns-in-Ok-clause-hash
returns-in-Ok-clause-hash g c = c.hash-hash.ensures c.args.token.now c.args.asked.now.rules c.in_ok-content.ensures.content

pub returns-in-Ok-clause-counted : goal.returns-in-Ok-clause-counted
returns-in-Ok-clause-counted g c = (c.in_ok-marked.ensures.opened c.args.token.now c.args.asked.now.rules c.in_ok-content.ensures.content).counted

pub returns-in-Ok-clause-within : goal.returns-in-Ok-clause-within
returns-in-Ok-clause-within g c = (c.open.ensures.opened c.args.token.now c.args.asked.now.rules c.in_ok-content.ensures.content).within

pub returns-clause-within : goal.returns-clause-within
returns-clause-within g c = (c.open.ensures.opened c.args.token.now c.args.asked.now.rules c.in_ok-content.ensures.content).within

pub returns-in_err-content-clause-early : goal.returns-in_err-content-clause-early
returns-in_err-content-clause-early g c =
    let from = err_from_is_err_and c.from_residual.result c.from_residual.ensures.1 in
    rw (from.1, from.2) c.in_err-content.ensures.early
