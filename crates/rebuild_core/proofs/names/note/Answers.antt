use Rattle.std.proofs.Common.{◌≡◌, not, cond, true, subst}
use Rattle.std.specs.HashSet.{contains}
use Rattle.rebuild_core.specs.declared.names.Disclosed.{Disclosed}
use Rattle.rebuild_core.specs.contracts.names.DisclosedPartialEq.TheImpl.{eq-value}
use Rattle.rebuild_core.proofs.Disclosures.{key, added_new, added_noted}
use Rattle.rebuild_core.proofs.names.note.Goals as goal

pub returns-clause-new : goal.returns-clause-new
returns-clause-new c =
    added_new c.args.disclosed.now c.args.object c.as_str-name.result c.args.name.now c.in_ok-insert.field-0
    (subst (λ z. c.in_ok-insert.field-0 ≡ not (contains eq-value.it c.args.disclosed.now (key c.args.object c.as_str-name.result z))) c.as_str-name.ensures c.in_ok-insert.ensures.added)

pub returns-clause-noted : goal.returns-clause-noted
returns-clause-noted c =
    added_noted c.args.disclosed.now c.insert.new.self c.args.object c.as_str-name.result c.args.name.now
    (subst (λ z. (d : Disclosed) → contains eq-value.it c.insert.new.self d ≡ cond (eq-value.it (key c.args.object c.as_str-name.result z) d) true (contains eq-value.it c.args.disclosed.now d))
    c.as_str-name.ensures c.in_ok-insert.ensures.updates.0)
